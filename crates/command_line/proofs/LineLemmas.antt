-- The steps of a line, over plain lists.
use Rattle.std.proofs.Common.{◌≡◌, ◌≤◌, ◌+◌, ◌-◌, ◌<◌, ℕ, Bool, true, false, List, [], ◌∷◌, length, take, drop, map, refl, ap, sym, ◌∙◌, arith, suc, get_or, if◌then◌else◌}
use Rattle.std.specs.Prelude.{Some, None, nat_le}
use Rattle.std.specs.List.{list_all}
use Rattle.std.proofs.lemmas.Bool.Decides.{nat_tests}
use Rattle.std.proofs.Math.Seq.{drop-cons}
use Rattle.std.proofs.lemmas.List.{drop-map, length-map, take-map}
use Rattle.std.proofs.lemmas.List.Folds.{list_all-map}
use Rattle.command_line.specs.declared.commands.OptionSet.{OptionSet}
use Rattle.clap.specs.Faults.{built_fault}
use Rattle.clap.specs.Simple.{built, names_of}
use Rattle.clap.specs.Walk.{nothing_held, rows_after}
use Rattle.command_line.specs.Commands.{Text}
use Rattle.command_line.specs.Said.{Texts}
use Rattle.command_line.specs.Options.{app_for, is_none, takes_words, texts_given, texts_in}
use Rattle.command_line.proofs.Flat.{is_flat}
use Rattle.command_line.specs.Line.{files_in, given, given_after, is_file_word, line, option_words}

-- `clap` passes over the first word
takes_after : (set : OptionSet) (x y : Text) (ws : List Text) → takes_words set (x ∷ ws) ≡ takes_words set (y ∷ ws)
unfolding takes_words
takes_after set x y ws =
    ap (λ (v : List Text). is_none (built_fault (built (app_for set)) nothing_held v)) ((is_flat set).arguments x ws ∙ sym ((is_flat set).arguments y ws))

texts_after : (set : OptionSet) (x y : Text) (ws : List Text) → texts_given set (x ∷ ws) ≡ texts_given set (y ∷ ws)
unfolding texts_given
texts_after set x y ws =
    ap (λ (v : List Text). texts_in (rows_after (built (app_for set)).top.rules (names_of (built (app_for set))) v)) ((is_flat set).arguments x ws ∙ sym ((is_flat set).arguments y ws))

first_word : (ws : List Text) → 0 < length ws → (p : Text) × (take 1 ws ≡ p ∷ [])
first_word [] h = absurd (omega arith)
first_word (p ∷ ws) h = (p, refl)

-- a line with at least k words, from its k-th on
after_files : (k : ℕ) (ws : List Text) → 1 ≤ k → k ≤ length ws → drop (k - 1) ws ≡ get_or ws (k - 1) [] ∷ drop k ws
after_files k ws low h =
    let here : k - 1 < length ws = omega arith in
    let same : suc (k - 1) ≡ k = omega arith in
    drop-cons ws (k - 1) [] here ∙ ap (λ j. get_or ws (k - 1) [] ∷ drop j ws) same

-- the words of n files are there behind the first `place`, of which there is one; `passed` is what goes to `clap`
pub record Passed (place n : ℕ) (ws passed files : List Text) : Type 0 where
  pub not_first : 1 ≤ place
  pub files_are : files_in place n ws ≡ Some files
  pub words_are : passed ≡ drop (place + n - 1) ws

module _ (set : OptionSet) (place n : ℕ) (ws : List Text) where
  takes_options : 1 ≤ place → place + n ≤ length ws → takes_words set (option_words place n ws) ≡ takes_words set (drop (place + n - 1) ws)
  takes_options low h =
      let first = first_word ws (omega arith) in
      rw (first.1, after_files (place + n) ws (omega arith) h) (takes_after set first.0 (get_or ws (place + n - 1) []) (drop (place + n) ws))

  texts_options : 1 ≤ place → place + n ≤ length ws → texts_given set (option_words place n ws) ≡ texts_given set (drop (place + n - 1) ws)
  texts_options low h =
      let first = first_word ws (omega arith) in
      rw (first.1, after_files (place + n) ws (omega arith) h) (texts_after set first.0 (get_or ws (place + n - 1) []) (drop (place + n) ws))

  -- the words of files are there
  files_there : (files : List Text) → files_in place n ws ≡ Some files → place + n ≤ length ws
  files_there files e = grind (arith, nat_tests, e)

  given_refused : (passed files : List Text) → Passed place n ws passed files → takes_words set passed ≡ false
      → given set (option_words place n ws) ≡ None
  given_refused passed files p h =
      let long = files_there files p.files_are in
      let no_words : takes_words set (option_words place n ws) ≡ false = takes_options p.not_first long ∙ (ap (takes_words set) (sym p.words_are) ∙ h) in
      rw no_words refl

  given_taken : (passed files : List Text) → Passed place n ws passed files → takes_words set passed ≡ true
      → given set (option_words place n ws) ≡ Some (texts_given set passed)
  given_taken passed files p h =
      let long = files_there files p.files_are in
      let taken : takes_words set (option_words place n ws) ≡ true = takes_options p.not_first long ∙ (ap (takes_words set) (sym p.words_are) ∙ h) in
      rw (taken, texts_options p.not_first long, p.words_are) refl

  pub nothing_given : (passed files : List Text) → Passed place n ws passed files → takes_words set passed ≡ false → given_after set place n ws ≡ None
  nothing_given passed files p h = rw (p.files_are, given_refused passed files p h) refl

  pub all_given : (passed files : List Text) (texts : Texts) → Passed place n ws passed files → takes_words set passed ≡ true
      → texts ≡ texts_given set passed → given_after set place n ws ≡ Some (files, texts)
  all_given passed files texts p h t = rw (p.files_are, given_taken passed files p h, ← t) refl

-- the words of files, where the line has as many words
pub files_read : {X : Type 0} (g : X → Text) (place n : ℕ) (xs files : List X) (b : Bool) → place + n ≤ length xs
    → files ≡ take n (drop place xs) → b ≡ list_all (λ w. is_file_word (g w)) files
    → files_in place n (map g xs) ≡ (if b then Some (map g files) else None)
files_read g place n xs files b h f e =
    let parts : take n (drop place (map g xs)) ≡ map g files = rw (drop-map g place xs, take-map g n (drop place xs), f) refl in
    let long : nat_le (place + n) (length (map g xs)) ≡ true = rw (length-map xs g) (grind (arith, nat_tests, h)) in
    let all : list_all is_file_word (map g files) ≡ b = rw (list_all-map is_file_word g files) (sym e) in
    rw (long, parts, all) refl

-- the words of the files, and those that go to `clap`
pub passed : {X : Type 0} (g : X → Text) (place n : ℕ) (xs rest files : List X) → 1 ≤ place
    → Some (map g files) ≡ files_in place n (map g xs) → rest ≡ drop (place + n - 1) xs → Passed place n (map g xs) (map g rest) (map g files)
passed g place n xs rest files low f h = record {
  not_first = low;
  files_are = sym f;
  words_are = rw (drop-map g (place + n - 1) xs, h) refl;
}

-- a line has a second word
pub no_command_word : {X : Type 0} (g : X → Text) (xs : List X) → length xs ≤ 1 → line (map g xs) ≡ None
no_command_word g [] e = refl
no_command_word g (x ∷ []) e = refl
no_command_word g (x ∷ y ∷ xs) e = absurd (omega arith)
