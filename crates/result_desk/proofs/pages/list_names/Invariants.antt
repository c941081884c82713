use Rattle.std.proofs.Common.{◌≡◌, ℕ, ◌<◌, vec_len, vec_capacity, Some}
use Rattle.std.specs.Prelude.{slice_get}
use Rattle.fs_model.specs.declared.sites.Site.{Site}
use Rattle.result_desk.specs.Index.{with_place}
use Rattle.result_desk.proofs.pages.list_names.Given as goal

abbrev pub invariant-loop-place : goal.invariant-loop-place
invariant-loop-place l = record {
  long : vec_len l.index ≡ l.place;
  room : vec_capacity l.index ≡ vec_capacity l.fn.index;
  each : (k : ℕ) (site : Site) → k < l.place → slice_get l.sites k ≡ Some site → slice_get l.index.items k ≡ Some (with_place site k);
}
