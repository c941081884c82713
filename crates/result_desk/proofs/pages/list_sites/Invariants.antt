use Rattle.std.proofs.Common.{◌≡◌, ℕ, ◌<◌, vec_len, vec_capacity, Some}
use Rattle.std.specs.Prelude.{slice_get}
use Rattle.fs_model.specs.declared.sites.Job.{Job}
use Rattle.fs_model.specs.Job.{site_of}
use Rattle.result_desk.proofs.pages.list_sites.Given as goal

abbrev pub invariant-loop-number : goal.invariant-loop-number
invariant-loop-number l = record {
  along : l.walk ≡ l.list;
  long : vec_len l.sites ≡ l.number-index;
  room : vec_capacity l.sites ≡ vec_capacity l.fn.sites;
  each : (i n : ℕ) (job : Job) → i < l.number-index → slice_get l.numbers i ≡ Some n → slice_get l.list.list n ≡ Some job → slice_get l.sites.items i ≡ Some (site_of job);
}
