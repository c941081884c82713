use Rattle.std.proofs.Common.{◌≡◌, ◌∷◌, List, Option, Some, true, sym, subst}
use Rattle.keep_format.specs.declared.rows.KeptRow.{KeptRow}
use Rattle.keep_format.specs.declared.order.Name.{Name}
use Rattle.keep_format.specs.Order.{is_behind}
use Rattle.keep_format.specs.Runs.{joined, name_in, with_first}
use Rattle.keep_format.proofs.RunWalk.{Walked, walks, next_of}
use Rattle.keep_format.proofs.runs.find_next.Goals as goal

pub rows-preserved : goal.rows-preserved
rows-preserved c =
    let before = joined c.args.fronts.now in
    let whole = c.args.row ∷ c.args.rest.now in
    let fronts = c.apart_in_runs.new.fronts in
    let here : Walked before whole (c.in-Some.row ∷ c.rows.rest) c.rows.last c.rows.fronts
    = subst (λ (o : Option KeptRow). Walked before whole (with_first o c.rows.rest) c.rows.last c.rows.fronts) c.in-Some.is c.rows.invariant.walked in
    let behind : is_behind c.rows.last (name_in c.in-Some.row) ≡ true = cc in
    let walked : Walked before whole c.rows.rest (Some (name_in c.in-Some.row)) fronts
    = walks before whole c.rows.rest c.rows.last c.rows.fronts c.in-Some.row here fronts behind (sym c.in_default-apart_in_runs.ensures.apart) c.in_default-apart_in_runs.ensures.later in
    record {
      walked = subst (λ (l : List KeptRow). Walked before whole l (Some c.name_of-name.result) fronts) (sym (next_of c.next-next.result c.rows.rest c.next-next.new.self c.next-next.ensures.steps))
          (subst (λ (n : Name). Walked before whole c.rows.rest (Some n) fronts) (sym c.name_of-name.ensures) walked);
      ascend = c.in_default-apart_in_runs.ensures.ascend;
    }
