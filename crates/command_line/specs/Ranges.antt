-- How many files a line may name, the numbers that the values of options may be, and those that are meant where an option is missing.
use Rattle.std.specs.Prelude.{ℕ}

abbrev pub max_files : ℕ
max_files = 3

-- how many a line of `fail_export` names: IMAGE, KEEP and DB
abbrev pub export_files : ℕ
export_files = 3

-- how many a line of `fail_window` names: IMAGE and KEEP
abbrev pub window_files : ℕ
window_files = 2

-- how many a line of `fail_answers` names: IMAGE and KEEP
abbrev pub answers_files : ℕ
answers_files = 2

-- how many workers run the jobs
abbrev pub max_workers : ℕ
max_workers = 64

abbrev pub default_workers : ℕ
default_workers = 4

-- how many jobs are kept together
abbrev pub default_page : ℕ
default_page = 4096

-- how many jobs are kept before the campaign stops
abbrev pub max_stop : ℕ
max_stop = 0x7fff_ffff

-- into how many shards the jobs of a campaign are cut
abbrev pub max_shards : ℕ
max_shards = 65535

-- the first state of the generator of a program or of a sample
abbrev pub max_seed : ℕ
max_seed = 0xffff_ffff_ffff_ffff

abbrev pub default_seed : ℕ
default_seed = 0

-- how many blocks a generated program has
abbrev pub max_blocks : ℕ
max_blocks = 1024

abbrev pub default_blocks : ℕ
default_blocks = 8

-- how many sites a sample draws
abbrev pub max_count : ℕ
max_count = 1_000_000

abbrev pub default_count : ℕ
default_count = 1000
