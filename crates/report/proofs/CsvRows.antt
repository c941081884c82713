-- The texts of rows, as the writer of `csv` writes them.
use Rattle.std.proofs.Common.{◌≡◌, ◌==◌, ◌∙◌, ◌++◌, ◌+◌, ◌<◌, ◌≤◌, ◌^◌, ◌∷◌, [], ℕ, List, Bool, refl, sym, ap, true, false, arith, length, append_assoc, append-nil}
use Rattle.std.proofs.lemmas.Bool.{ne_eqb}
use Rattle.std.proofs.lemmas.Fmt.{decimal_by_steps}
use Rattle.std.proofs.lemmas.List.Folds.{list_any-append}
use Rattle.std.specs.Prelude.{◌%◌, ◌/◌, ◌||◌, codes, decimal, Option, Some, None, slice_get, take}
use Rattle.std.specs.Io.KnownBytes.{Appends}
use Rattle.std.specs.List.{flat_map, list_any}
use Rattle.fs_model.specs.declared.outcomes.Outcome.{Outcome}
use Rattle.fs_model.specs.declared.outcomes.Outcome.TheVariants.{NoEffect, Silent, Detected, Illegal, Address, Misaligned, Timeout}
use Rattle.fs_model.specs.Outcome.{outcome_word}
use Rattle.report.proofs.CsvLemmas.{rows_more}
use Rattle.csv.specs.Quoting.{needs_byte}
use Rattle.csv.specs.Writing.{default_writer, field_text, fields_text, is_blank, needs_quotes, row_text}

-- a digit calls for no quotes
plain_digit : (d : ℕ) → d < 10 → needs_byte default_writer (48 + d) ≡ false
plain_digit d low = rw (
  ne_eqb (48 + d) 44 (λ e. absurd (omega (arith, e))),
  ne_eqb (48 + d) 34 (λ e. absurd (omega (arith, e))),
  ne_eqb (48 + d) 13 (λ e. absurd (omega (arith, e))),
  ne_eqb (48 + d) 10 (λ e. absurd (omega (arith, e))),
) refl

abbrev IsPlain : ℕ → List ℕ → Type 0
IsPlain n text = needs_quotes default_writer text ≡ false

first : (n : ℕ) → n < 10 → IsPlain n ((48 + n) ∷ [])
first n low = rw (plain_digit n low) refl

next : (n : ℕ) (text : List ℕ) → 10 ≤ n → IsPlain (n / 10) text → IsPlain n (text ++ ((48 + n % 10) ∷ []))
next n text high plain =
    rw (list_any-append (needs_byte default_writer) text ((48 + n % 10) ∷ []), plain, plain_digit (n % 10) (omega arith)) refl

-- nor does a number
pub plain_number : (n : ℕ) → n < 2 ^ 64 → field_text default_writer (decimal n) ≡ decimal n
plain_number n small = rw (decimal_by_steps IsPlain first next n small) refl

-- ---- rows

joined : (a b c d : List ℕ) → (a ++ (44 ∷ (b ++ (44 ∷ (c ++ (44 ∷ (d ++ []))))))) ++ (10 ∷ []) ≡ a ++ (44 ∷ (b ++ (44 ∷ (c ++ (44 ∷ (d ++ (10 ∷ [])))))))
joined a b c d =
    append_assoc a (44 ∷ (b ++ (44 ∷ (c ++ (44 ∷ (d ++ [])))))) (10 ∷ [])
    ∙ ap (λ (t : List ℕ). a ++ (44 ∷ t)) (append_assoc b (44 ∷ (c ++ (44 ∷ (d ++ [])))) (10 ∷ [])
    ∙ ap (λ (t : List ℕ). b ++ (44 ∷ t)) (append_assoc c (44 ∷ (d ++ [])) (10 ∷ [])
    ∙ ap (λ (t : List ℕ). c ++ (44 ∷ (t ++ (10 ∷ [])))) (append-nil d)))

-- the row of four numbers
pub row_is : (a b c d : ℕ) → a < 2 ^ 64 → b < 2 ^ 64 → c < 2 ^ 64 → d < 2 ^ 64
    → row_text default_writer (decimal a ∷ decimal b ∷ decimal c ∷ decimal d ∷ [])
    ≡ decimal a ++ (44 ∷ (decimal b ++ (44 ∷ (decimal c ++ (44 ∷ (decimal d ++ (10 ∷ [])))))))
unfolding fields_text is_blank
row_is a b c d ha hb hc hd = rw (plain_number a ha, plain_number b hb, plain_number c hc, plain_number d hd) (joined (decimal a) (decimal b) (decimal c) (decimal d))

-- the names of the columns
pub names_are : row_text default_writer (codes "cycle" ∷ codes "cell" ∷ codes "bit" ∷ codes "weight" ∷ []) ≡ codes "cycle,cell,bit,weight\n"
unfolding fields_text is_blank
names_are = refl

pub more_names_are : row_text default_writer (codes "cycle" ∷ codes "cell" ∷ codes "bit" ∷ codes "weight" ∷ codes "outcome" ∷ []) ≡ codes "cycle,cell,bit,weight,outcome\n"
unfolding fields_text is_blank
more_names_are = refl

-- ---- rows with outcomes

plain_word : (o : Outcome) → field_text default_writer (outcome_word o) ≡ outcome_word o
plain_word NoEffect = refl
plain_word Silent = refl
plain_word Detected = refl
plain_word Illegal = refl
plain_word Address = refl
plain_word Misaligned = refl
plain_word Timeout = refl

more_joined : (a b c d e : List ℕ) → (a ++ (44 ∷ (b ++ (44 ∷ (c ++ (44 ∷ (d ++ (44 ∷ (e ++ []))))))))) ++ (10 ∷ [])
    ≡ a ++ (44 ∷ (b ++ (44 ∷ (c ++ (44 ∷ (d ++ (44 ∷ (e ++ (10 ∷ [])))))))))
more_joined a b c d e =
    append_assoc a (44 ∷ (b ++ (44 ∷ (c ++ (44 ∷ (d ++ (44 ∷ (e ++ [])))))))) (10 ∷ [])
    ∙ ap (λ (t : List ℕ). a ++ (44 ∷ t)) (joined b c d e)

-- the row of four numbers and an outcome
pub outcome_row_is : (a b c d : ℕ) (o : Outcome) → a < 2 ^ 64 → b < 2 ^ 64 → c < 2 ^ 64 → d < 2 ^ 64
    → row_text default_writer (decimal a ∷ decimal b ∷ decimal c ∷ decimal d ∷ outcome_word o ∷ [])
    ≡ decimal a ++ (44 ∷ (decimal b ++ (44 ∷ (decimal c ++ (44 ∷ (decimal d ++ (44 ∷ (outcome_word o ++ (10 ∷ [])))))))))
unfolding fields_text is_blank
outcome_row_is a b c d o ha hb hc hd =
    rw (plain_number a ha, plain_number b hb, plain_number c hc, plain_number d hd, plain_word o)
    (more_joined (decimal a) (decimal b) (decimal c) (decimal d) (outcome_word o))

-- ---- rows one after another

appends_more : (a b c : Option (List ℕ)) (xs ys : List ℕ) → Appends a b xs → Appends b c ys → Appends a c (xs ++ ys)
appends_more None b c xs ys f g = tt
appends_more (Some x) None c xs ys f g = absurd f
appends_more (Some x) (Some y) None xs ys f g = absurd g
appends_more (Some x) (Some y) (Some z) xs ys f g = g ∙ ap (λ (t : List ℕ). t ++ ys) f ∙ append_assoc x xs ys

pub appends_none : (a : Option (List ℕ)) → Appends a a []
appends_none None = tt
appends_none (Some xs) = sym (append-nil xs)

-- one row more, by its number
pub appends_row : {X : Type 0} (f : X → List ℕ) (xs : List X) (i : ℕ) (x : X) (a b c : Option (List ℕ)) → slice_get xs i ≡ Some x
    → Appends a b (flat_map f (take i xs)) → Appends b c (f x) → Appends a c (flat_map f (take (i + 1) xs))
appends_row f xs i x a b c e p q = rw (rows_more f xs i x e) (appends_more a b c (flat_map f (take i xs)) (f x) p q)
