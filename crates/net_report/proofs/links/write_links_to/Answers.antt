use Rattle.net_io.proofs.Paging.{whole_passes, whole_fails}
use Rattle.net_report.specs.Links.{link_text}
use Rattle.net_report.proofs.links.write_links_to.Goals as goal

pub returns-clause-ok : goal.returns-clause-ok
returns-clause-ok g c =
    whole_passes g.W.Sink.taken g.W.Sink.failed c.args.sink.now c.send_links.new.sink c.finish.new.sink _ c.send_links.new.page (link_text c.args.names.now c.args.link.now) c.finish.result
    c.new-page.ensures c.send_links.ensures c.finish.ensures.ok

pub returns-clause-err : goal.returns-clause-err
returns-clause-err g c =
    whole_fails g.W.Sink.taken g.W.Sink.failed c.args.sink.now c.send_links.new.sink c.finish.new.sink _ c.send_links.new.page (link_text c.args.names.now c.args.link.now) c.finish.result
    c.new-page.ensures c.send_links.ensures c.finish.ensures.err
