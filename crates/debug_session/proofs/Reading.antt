-- Memory, byte by byte.
use Rattle.std.proofs.Common.{◌≡◌, ℕ, zero, suc, ◌+◌, ◌-◌, ◌<◌, List, [], ◌∷◌, ◌++◌, Option, Some, None, refl, ap, ◌∙◌, sym, arith, append_assoc, append-nil}
use Rattle.hex.specs.Hex.{encode_lower, encode_with}
use Rattle.fs_model.specs.Case.{CaseData}
use Rattle.debug_session.specs.Texts.{byte_at, byte_onto, readable}

readable_step : (c : CaseData) (ram : List ℕ) (n k : ℕ) → 0 < k → readable c ram n k ≡ byte_onto (byte_at c ram n) (readable c ram (n + 1) (k - 1))
unfolding readable
readable_step c ram n zero h = absurd (omega arith)
readable_step c ram n (suc k) h = let e : suc k - 1 ≡ k = omega arith in rw e refl

encode_one : (b : ℕ) (rest : List ℕ) → encode_lower (b ∷ rest) ≡ encode_lower (b ∷ []) ++ encode_lower rest
unfolding encode_with
encode_one b rest = refl

-- one byte more was put
pub read_more : (c : CaseData) (ram text text' whole : List ℕ) (n n' k k' b : ℕ) → 0 < k → n' ≡ n + 1 → k' ≡ k - 1 → Some b ≡ byte_at c ram n → text' ≡ text ++ encode_lower (b ∷ []) → text ++ encode_lower (readable c ram n k) ≡ whole
    → text' ++ encode_lower (readable c ram n' k') ≡ whole
read_more c ram text text' whole n n' k k' b some next less is put h =
    rw (next, less, put) (append_assoc text (encode_lower (b ∷ [])) (encode_lower (readable c ram (n + 1) (k - 1)))
    ∙ ap (λ (x : List ℕ). text ++ x) (sym (encode_one b (readable c ram (n + 1) (k - 1))))
    ∙ ap (λ (o : Option ℕ). text ++ encode_lower (byte_onto o (readable c ram (n + 1) (k - 1)))) is
    ∙ ap (λ (x : List ℕ). text ++ encode_lower x) (sym (readable_step c ram n k some))
    ∙ h)

-- no byte is there
pub read_last : (c : CaseData) (ram text whole : List ℕ) (n k : ℕ) → None ≡ byte_at c ram n → 0 < k → text ++ encode_lower (readable c ram n k) ≡ whole → text ≡ whole
unfolding encode_with
read_last c ram text whole n k is some h =
    let none : readable c ram n k ≡ [] = readable_step c ram n k some ∙ ap (λ (o : Option ℕ). byte_onto o (readable c ram (n + 1) (k - 1))) (sym is) in
    sym (append-nil text) ∙ ap (λ (x : List ℕ). text ++ encode_lower x) (sym none) ∙ h

-- all were put
pub read_all : (c : CaseData) (ram text whole : List ℕ) (n k : ℕ) → k ≡ 0 → text ++ encode_lower (readable c ram n k) ≡ whole → text ≡ whole
unfolding readable encode_with
read_all c ram text whole n k none h = sym (append-nil text) ∙ (rw none at h)
