-- A record of calls keeps up with the bytes.
use Rattle.std.proofs.Common.{◌≡◌, ℕ, ◌≤◌, List, [], ◌∷◌, ◌++◌, length, Vec, sym, ◌∙◌, ap, subst}
use Rattle.std.specs.declared.alloc.Global.{Global}
use Rattle.fs_outside.specs.declared.memory.tape.Call.{Call}
use Rattle.fs_outside.specs.declared.memory.tape.Call.TheVariants.{Write, Sync}
use Rattle.fs_outside.specs.Past.{Past, Wrote, Synced, overwritten, content, synced_content, IsImage}
use Rattle.fs_outside.specs.Replay.{replayed}
use Rattle.fs_outside.proofs.Replays.{replayed-push}
use Rattle.fs_outside.proofs.Moments.{image_after_write, image_is_content}

-- the bytes are what is read, and one of the images, and what was synced is kept
pub record KeepsUp (past : Past) (bytes synced : List ℕ) : Type 0 where
  pub settled : synced ≡ synced_content past
  pub reads : bytes ≡ content past
  pub image : IsImage past bytes

after_sync : (past : Past) (bytes synced : List ℕ) → synced ≡ bytes → bytes ≡ content past
    → KeepsUp (Synced past) bytes synced
after_sync past bytes synced same reads = record {
  settled = same ∙ reads;
  reads = reads;
  image = subst (λ (b : List ℕ). IsImage (Synced past) b) (sym reads) (image_is_content past);
}

pub after_sync_call : (made : Past) (calls calls' : List Call) (bytes synced : List ℕ) → calls' ≡ calls ++ Sync ∷ []
    → synced ≡ bytes → bytes ≡ content (replayed made calls) → KeepsUp (replayed made calls') bytes synced
after_sync_call made calls calls' bytes synced is same reads =
    subst (λ p. KeepsUp p bytes synced) (sym (ap (replayed made) is ∙ replayed-push made calls Sync)) (after_sync (replayed made calls) bytes synced same reads)

pub after_write_call : (made : Past) (calls calls' : List Call) (bytes bytes' synced : List ℕ) (at count : ℕ) (taken : Vec ℕ Global)
    → calls' ≡ calls ++ Write at count taken ∷ [] → bytes' ≡ overwritten bytes at taken.items
    → at ≤ length (content (replayed made calls)) → length taken.items ≤ count → synced ≡ synced_content (replayed made calls) → bytes ≡ content (replayed made calls) → IsImage (replayed made calls) bytes
    → KeepsUp (replayed made calls') bytes' synced
after_write_call made calls calls' bytes bytes' synced at count taken is over within fits settled reads image =
    let past = replayed made calls in
    let same : replayed made calls' ≡ Wrote past at count taken.items = ap (replayed made) is ∙ replayed-push made calls (Write at count taken) in
    let now : KeepsUp (Wrote past at count taken.items) (overwritten bytes at taken.items) synced = record {
      settled = settled;
      reads = ap (λ (b : List ℕ). overwritten b at taken.items) reads;
      image = image_after_write past at count taken.items bytes (subst (λ (b : List ℕ). at ≤ length b) (sym reads) within) fits image;
    } in
    subst (λ p. KeepsUp p bytes' synced) (sym same) (subst (λ (b : List ℕ). KeepsUp (Wrote past at count taken.items) b synced) (sym over) now)
