use Rattle.std.proofs.Common.{All, ◌+◌, ◌*◌, List, ℕ, [], ◌∷◌, ◌++◌, length, sym, ◌∙◌, ap, subst, arith, rules}
use Rattle.def_use.proofs.Places.{kept_of-le}
use Rattle.keep_format.specs.KeepFile.{batch_bytes, rows_held}
use Rattle.fs_model.specs.Verdict.{IsRight}
use Rattle.result_keeper.specs.Boards.{AreFileable}
use Rattle.fs_outside.specs.Past.{content, EachImage, LeavesOnly}
use Rattle.result_keeper.specs.Keep.{Gives, HoldsMore, IsBeforeOrAfter, KeeperData, HasFile, IsSettled}
use Rattle.result_keeper.proofs.Appended.{Appends, RightAndOld, append_within, append_leaves, append_old, append_sound, append_stays, append_settled, append_added, append_each, append_gives}
use Rattle.result_keeper.proofs.Once.{once_of}
use Rattle.result_keeper.proofs.keeper.Keeper.append.Goals as goal

pub write_behind-requires-clause-within : goal.write_behind-requires-clause-within
write_behind-requires-clause-within g c =
    λ told.
    let it : Appends (g.D.Disk.past c.args.disk.now) c.self.inside.case.now c.self.inside.board c.self.inside.gate c.self.inside.list.now.list c.args.rows.now c.deref.result.now = record {
      settled = subst (λ (k : KeeperData). HasFile k (g.D.Disk.past c.args.disk.now)) (sym c.self.view_is) (c.requires.file told);
      reads = g.met.D.Disk.reads_image c.args.disk.now told;
      has = c.facts.ensures;
      jobs = c.self.invariant.0.jobs;
      few = omega (arith, c.requires.few, c.self.invariant.0.few, ap (λ (k : KeeperData). k.page) c.self.view_is);
      fit = c.write_batch.ensures.writable;
      fresh = subst (λ (k : KeeperData). AreFileable k.list k.board c.args.rows.now) (sym c.self.view_is) c.requires.blank;
      body_is = c.deref.ensures.value ∙ c.write_batch.ensures.items ∙ ap (λ (l : List ℕ). l ++ (batch_bytes c.args.rows.now ++ 0 ∷ [])) c.clear.ensures.items;
    } in
    append_within (g.D.Disk.past c.args.disk.now) c.self.inside.case.now c.self.inside.board c.self.inside.gate c.self.inside.list.now.list c.args.rows.now c.deref.result.now it

pub file_rows-requires-clause-once : goal.file_rows-requires-clause-once
file_rows-requires-clause-once g c = once_of c.self.inside.case.now c.self.inside.list.now.list c.self.invariant.0.jobs

pub invariant_of-self : goal.invariant_of-self
invariant_of-self g c =
    let most = kept_of-le c.file_rows.new.board in (
      record {
        jobs = c.self.invariant.0.jobs;
        long = c.file_rows.ensures.long;
        few = c.self.invariant.0.few;
        room = omega (arith, most, c.file_rows.ensures.long, c.file_rows.ensures.kept, c.self.invariant.0.long, c.self.invariant.0.room, c.requires.some);
      },
      omega (arith, c.self.invariant.1, c.write_batch.ensures.room, c.clear.ensures.capacity),
    )

pub returns-in-Ok : goal.returns-in-Ok
returns-in-Ok g c =
    let begins : g.D.Disk.tells → Appends (g.D.Disk.past c.args.disk.now) c.self.inside.case.now c.self.inside.board c.self.inside.gate c.self.inside.list.now.list c.args.rows.now c.deref.result.now = λ told. record {
      settled = subst (λ (k : KeeperData). HasFile k (g.D.Disk.past c.args.disk.now)) (sym c.self.view_is) (c.requires.file told);
      reads = g.met.D.Disk.reads_image c.args.disk.now told;
      has = c.facts.ensures;
      jobs = c.self.invariant.0.jobs;
      few = omega (arith, c.requires.few, c.self.invariant.0.few, ap (λ (k : KeeperData). k.page) c.self.view_is);
      fit = c.write_batch.ensures.writable;
      fresh = subst (λ (k : KeeperData). AreFileable k.list k.board c.args.rows.now) (sym c.self.view_is) c.requires.blank;
      body_is = c.deref.ensures.value ∙ c.write_batch.ensures.items ∙ ap (λ (l : List ℕ). l ++ (batch_bytes c.args.rows.now ++ 0 ∷ [])) c.clear.ensures.items;
    } in
    let settled : g.D.Disk.tells → IsSettled c.self.inside.case.now c.file_rows.new.board (c.self.inside.gate + (3 + 10 * length c.args.rows.now)) (g.D.Disk.past c.write_behind.new.disk) =
    λ told. subst (λ b. IsSettled c.self.inside.case.now b (c.self.inside.gate + (3 + 10 * length c.args.rows.now)) (g.D.Disk.past c.write_behind.new.disk)) (sym c.file_rows.ensures.board)
    (append_settled (g.D.Disk.past c.args.disk.now) c.self.inside.case.now c.self.inside.board c.self.inside.gate c.self.inside.list.now.list c.args.rows.now c.deref.result.now (begins told) (g.D.Disk.past c.write_behind.new.disk) (c.in-Ok.ensures.written told) (c.in-Ok.ensures.synced told)) in
    record {
      keeper = search rules;
      cause = search rules;
      file = settled;
      added = λ told. subst (λ (k : KeeperData). HoldsMore (RightAndOld k.case c.args.rows.now (g.D.Disk.past c.args.disk.now)) (rows_held (content (g.D.Disk.past c.args.disk.now))) c.args.rows.now (content (g.D.Disk.past c.write_behind.new.disk))) c.self.view_is
          (append_added (g.D.Disk.past c.args.disk.now) c.self.inside.case.now c.self.inside.board c.self.inside.gate c.self.inside.list.now.list c.args.rows.now c.deref.result.now (begins told) (g.D.Disk.past c.write_behind.new.disk) (c.in-Ok.ensures.written told));
      bytes = search rules;
      kept = λ told right old gives. subst (λ b. EachImage (g.D.Disk.past c.write_behind.new.disk) (Gives c.self.inside.case.now b)) (sym c.file_rows.ensures.board)
          (append_gives (g.D.Disk.past c.args.disk.now) c.self.inside.case.now c.self.inside.board c.self.inside.gate c.self.inside.list.now.list c.args.rows.now c.deref.result.now (begins told) (g.D.Disk.past c.write_behind.new.disk) (c.in-Ok.ensures.written told) (c.in-Ok.ensures.synced told) (subst (λ (k : KeeperData). All (IsRight k.case) c.args.rows.now) (sym c.self.view_is) right) old
          (subst (λ (k : KeeperData). Gives k.case k.board (content (g.D.Disk.past c.args.disk.now))) (sym c.self.view_is) gives));
      acknowledged = λ told. subst (λ (k : KeeperData). EachImage (g.D.Disk.past c.write_behind.new.disk) (HoldsMore (RightAndOld k.case c.args.rows.now (g.D.Disk.past c.args.disk.now)) (rows_held (content (g.D.Disk.past c.args.disk.now))) c.args.rows.now)) c.self.view_is
          (append_each (g.D.Disk.past c.args.disk.now) c.self.inside.case.now c.self.inside.board c.self.inside.gate c.self.inside.list.now.list c.args.rows.now c.deref.result.now (begins told) (g.D.Disk.past c.write_behind.new.disk) (c.in-Ok.ensures.written told) (c.in-Ok.ensures.synced told));
      any_moment = λ told. subst (λ (k : KeeperData). LeavesOnly (g.D.Disk.past c.args.disk.now) (g.D.Disk.past c.write_behind.new.disk) (IsBeforeOrAfter (RightAndOld k.case c.args.rows.now (g.D.Disk.past c.args.disk.now)) (rows_held (content (g.D.Disk.past c.args.disk.now))) c.args.rows.now)) c.self.view_is
          (append_leaves (g.D.Disk.past c.args.disk.now) c.self.inside.case.now c.self.inside.board c.self.inside.gate c.self.inside.list.now.list c.args.rows.now c.deref.result.now (begins told) (g.D.Disk.past c.write_behind.new.disk) (c.write_behind.ensures.any_moment told));
      sound = λ told right sound. append_sound (g.D.Disk.past c.args.disk.now) c.self.inside.case.now c.self.inside.board c.self.inside.gate c.self.inside.list.now.list c.args.rows.now c.deref.result.now (begins told) (g.D.Disk.past c.write_behind.new.disk) (c.write_behind.ensures.any_moment told) (subst (λ (k : KeeperData). All (IsRight k.case) c.args.rows.now) (sym c.self.view_is) right) sound;
      old_rows = λ told right old. append_old (g.D.Disk.past c.args.disk.now) c.self.inside.case.now c.self.inside.board c.self.inside.gate c.self.inside.list.now.list c.args.rows.now c.deref.result.now (begins told) (g.D.Disk.past c.write_behind.new.disk) (c.write_behind.ensures.any_moment told) (subst (λ (k : KeeperData). All (IsRight k.case) c.args.rows.now) (sym c.self.view_is) right) old;
      rows_stay = λ told right. append_stays (g.D.Disk.past c.args.disk.now) c.self.inside.case.now c.self.inside.board c.self.inside.gate c.self.inside.list.now.list c.args.rows.now c.deref.result.now (begins told) (g.D.Disk.past c.write_behind.new.disk) (c.write_behind.ensures.any_moment told) (subst (λ (k : KeeperData). All (IsRight k.case) c.args.rows.now) (sym c.self.view_is) right);
    }

pub returns-in-Err : goal.returns-in-Err
returns-in-Err g c =
    let begins : g.D.Disk.tells → Appends (g.D.Disk.past c.args.disk.now) c.self.inside.case.now c.self.inside.board c.self.inside.gate c.self.inside.list.now.list c.args.rows.now c.deref.result.now = λ told. record {
      settled = subst (λ (k : KeeperData). HasFile k (g.D.Disk.past c.args.disk.now)) (sym c.self.view_is) (c.requires.file told);
      reads = g.met.D.Disk.reads_image c.args.disk.now told;
      has = c.facts.ensures;
      jobs = c.self.invariant.0.jobs;
      few = omega (arith, c.requires.few, c.self.invariant.0.few, ap (λ (k : KeeperData). k.page) c.self.view_is);
      fit = c.write_batch.ensures.writable;
      fresh = subst (λ (k : KeeperData). AreFileable k.list k.board c.args.rows.now) (sym c.self.view_is) c.requires.blank;
      body_is = c.deref.ensures.value ∙ c.write_batch.ensures.items ∙ ap (λ (l : List ℕ). l ++ (batch_bytes c.args.rows.now ++ 0 ∷ [])) c.clear.ensures.items;
    } in
    record {
      keeper = search rules;
      cause = search rules;
      file = search rules;
      added = search rules;
      bytes = search rules;
      kept = search rules;
      acknowledged = search rules;
      any_moment = λ told. subst (λ (k : KeeperData). LeavesOnly (g.D.Disk.past c.args.disk.now) (g.D.Disk.past c.write_behind.new.disk) (IsBeforeOrAfter (RightAndOld k.case c.args.rows.now (g.D.Disk.past c.args.disk.now)) (rows_held (content (g.D.Disk.past c.args.disk.now))) c.args.rows.now)) c.self.view_is
          (append_leaves (g.D.Disk.past c.args.disk.now) c.self.inside.case.now c.self.inside.board c.self.inside.gate c.self.inside.list.now.list c.args.rows.now c.deref.result.now (begins told) (g.D.Disk.past c.write_behind.new.disk) (c.write_behind.ensures.any_moment told));
      sound = λ told right sound. append_sound (g.D.Disk.past c.args.disk.now) c.self.inside.case.now c.self.inside.board c.self.inside.gate c.self.inside.list.now.list c.args.rows.now c.deref.result.now (begins told) (g.D.Disk.past c.write_behind.new.disk) (c.write_behind.ensures.any_moment told) (subst (λ (k : KeeperData). All (IsRight k.case) c.args.rows.now) (sym c.self.view_is) right) sound;
      old_rows = λ told right old. append_old (g.D.Disk.past c.args.disk.now) c.self.inside.case.now c.self.inside.board c.self.inside.gate c.self.inside.list.now.list c.args.rows.now c.deref.result.now (begins told) (g.D.Disk.past c.write_behind.new.disk) (c.write_behind.ensures.any_moment told) (subst (λ (k : KeeperData). All (IsRight k.case) c.args.rows.now) (sym c.self.view_is) right) old;
      rows_stay = λ told right. append_stays (g.D.Disk.past c.args.disk.now) c.self.inside.case.now c.self.inside.board c.self.inside.gate c.self.inside.list.now.list c.args.rows.now c.deref.result.now (begins told) (g.D.Disk.past c.write_behind.new.disk) (c.write_behind.ensures.any_moment told) (subst (λ (k : KeeperData). All (IsRight k.case) c.args.rows.now) (sym c.self.view_is) right);
    }
