-- What a list of jobs keeps.
use Rattle.std.specs.Prelude.{◌≡◌, ℕ, ◌+◌, ◌^◌, ◌<◌, List, length, flat_map}
use Rattle.def_use.specs.declared.pass.Read.{Read}
use Rattle.def_use.specs.Reads.{jobs_of_read}
use Rattle.def_use.specs.Firsts.{AreFirsts, AscendFrom}
use Rattle.def_use.specs.Lives.{live_in, AreLives}

-- where reads begin, the weights before each block of reads, the weights of all, and that all its sites can be counted
pub record IsReadTable (reads : List Read) (starts blocks : List ℕ) (live dead : ℕ) : Type 0 where
  pub firsts : AreFirsts reads starts
  pub lives : AreLives reads blocks
  pub up : AscendFrom 0 reads
  pub few : length (flat_map jobs_of_read reads) < 2 ^ 32
  pub weights : live ≡ live_in reads
  pub small : live + dead < 2 ^ 64
