use Rattle.std.proofs.Common.{◌≡◌, ◌++◌, ◌∷◌, List, Option, Some, sym, subst, ap, ◌∙◌}
use Rattle.keep_format.specs.declared.rows.KeptRow.{KeptRow}
use Rattle.keep_format.specs.KeepFile.{conflict_behind}
use Rattle.keep_format.specs.Runs.{joined, front_of, with_first}
use Rattle.keep_format.proofs.RunWalk.{Searched, one_more}
use Rattle.keep_format.proofs.runs.find_in_runs.Goals as goal

pub runs-preserved : goal.runs-preserved
runs-preserved c =
    let all = c.args.rows.now.rows in
    let runs = c.runs.runs.items in
    let row = c.in-Some.row in
    let left = with_first c.in-Ok.found c.find_next.new.rest in
    let here : Searched all runs (row ∷ c.runs.rest) = subst (λ (o : Option KeptRow). Searched all runs (with_first o c.runs.rest)) c.in-Some.is c.runs.invariant in
    let same : c.as_mut_slice.result.now ≡ runs = cc in
    let found : conflict_behind (joined runs ++ front_of (Some row) c.runs.rest) left ≡ conflict_behind (joined runs) (row ∷ c.runs.rest)
    = subst (λ (l : List (List KeptRow)). conflict_behind (joined l ++ front_of (Some row) c.runs.rest) left ≡ conflict_behind (joined l) (row ∷ c.runs.rest)) same c.in-Ok.ensures.next in
    let run : c.new-run.result ≡ front_of (Some row) c.runs.rest = c.new-run.ensures.run ∙ ap (λ (l : List KeptRow). front_of (Some row) l) c.again.ensures in
    subst (λ (l : List (List KeptRow)). Searched all l left) (sym c.push.ensures.items)
    (one_more all runs row c.runs.rest left c.new-run.result here run c.new-run.ensures.ascends found c.in-Ok.ensures.behind)
