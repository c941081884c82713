use Rattle.shard_merge.proofs.Sounds.{sound_is_right}
use Rattle.shard_merge.proofs.laws.sound_board.Goals as goal

pub returns : goal.returns
returns c = sound_is_right
