use Rattle.std.proofs.Common.{◌≡◌, ℕ}
use Rattle.std.specs.BTreeMap.{get}
use Rattle.keep_format.specs.KeepFile.{conflict_behind, conflict_in}
use Rattle.keep_format.proofs.Names.{name_cmp}
use Rattle.keep_format.proofs.Seen.{seen_in, Told, Kept}
use Rattle.keep_format.proofs.conflicts.find_in_map.Given as goal

abbrev pub invariant-loop-row : goal.invariant-loop-row
invariant-loop-row l = record {
  can_next : (goal.iterator-loop-row).can_next l.row-iterator;
  is_finite : (goal.iterator-loop-row).is_finite l.row-iterator;
  so_far : conflict_behind l.yielded l.row-iterator ≡ conflict_in l.fn.rows;
  seen : (name : ℕ × ℕ × ℕ) → get name_cmp l.seen name ≡ seen_in l.yielded name;
  told : Told l.yielded;
  kept : Kept l.yielded;
}
