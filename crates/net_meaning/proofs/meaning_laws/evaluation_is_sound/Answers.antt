use Rattle.net_meaning.proofs.Meaning.{evaluation_is_sound, evaluation_is_sound_with, keys_are_sound}
use Rattle.net_meaning.proofs.meaning_laws.evaluation_is_sound.Goals as goal

pub returns : goal.returns
returns c = record { value = evaluation_is_sound; keys = keys_are_sound; among = evaluation_is_sound_with }
