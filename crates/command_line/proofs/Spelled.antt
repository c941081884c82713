-- What `clap` states of a flat command is what the grammar spells out.
use Rattle.std.proofs.Common.{◌≡◌, ◌<◌, ℕ, Bool, true, false, not, ◌||◌, ◌&&◌, List, [], ◌∷◌, ◌++◌, map, refl, ap, sym, subst, ◌∙◌, codes, arith, drop, suc, zero, ◌+◌}
use Rattle.std.specs.Prelude.{◌==◌, Option, Some, None, if◌then◌else◌, option_and_then, option_map, slice_get, fold, encode_utf8}
use Rattle.std.specs.List.{AllByRecursion, list_any}
use Rattle.std.specs.Str.{IsUtf8, chars, encode_utf8_all}
use Rattle.std.proofs.lemmas.Str.{IsUtf8-past_char, encode_ascii, encodes-chars}
use Rattle.std.proofs.lemmas.Bool.Decides.{nat_tests}
use Rattle.std.proofs.Math.Bool.{and-true}
use Rattle.clap.specs.Kinds.{or_else}
use Rattle.clap.specs.Lexer.{short_of_rest}
use Rattle.clap.specs.Faults.{built_fault, check_fault, default_fault, defaults_fault, given_default_fault, level_fault, settle_fault, turn_fault, walk_fault}
use Rattle.clap.specs.Simple.{Shape, argument_words, built, label_of, matches_of, names_of}
use Rattle.clap.specs.Takes.{is_given}
use Rattle.clap.specs.Walk.{Held, Row, Walk, finished, has_row, nothing_held, rows_after, settled, walk, walk_from, walked, with_default}
use Rattle.clap.proofs.FaultLemmas.{leaf_fault}
use Rattle.command_line.specs.declared.commands.Command.{Command}
use Rattle.command_line.specs.declared.commands.OptionSet.{OptionSet}
use Rattle.command_line.specs.declared.commands.OptionSet.TheVariants.{OfCommand}
use Rattle.command_line.specs.Commands.{Text, command_named, file_count, row_in}
use Rattle.command_line.specs.Request.{RequestData, said}
use Rattle.command_line.specs.Said.{Texts}
use Rattle.command_line.specs.Line.{files_in, given, line_of}
use Rattle.command_line.specs.Options.{app_for, is_none, takes_words, texts_given, texts_in}
use Rattle.command_line.proofs.Flat.{is_flat}
use Rattle.command_line.specs.Grammar.{IsSpelledLine, IsSpelledOut, Use, spelled_of, are_new, read_words, texts_of_uses, uses_in}
use Rattle.command_line.proofs.Lookups.{flag_built, option_built, rules, shape_for}
use Rattle.command_line.proofs.Readings.{texts_finished, texts_same}
use Rattle.command_line.proofs.Rows.{row_of_use}
use Rattle.command_line.proofs.Runs.{out, run, runs}
use Rattle.command_line.proofs.Turns.{HasChar, none_or_else, rows_settled, settles}

-- ---- a word of text has a first character after its hyphen

some_char : (flags : Text) → IsUtf8 flags → (x : ℕ) (xs : Text) → flags ≡ x ∷ xs → (y : ℕ) × (slice_get (chars flags) 0 ≡ Some y)
some_char flags u x xs e = first (chars flags) (encodes-chars flags u ∙ e)
  where
    first : (cs : List ℕ) → encode_utf8_all cs ≡ x ∷ xs → (y : ℕ) × (slice_get cs 0 ≡ Some y)
    first [] h = cc
    first (c ∷ cs) h = (c, refl)

ascii_hyphen : (b : ℕ) → (b == 45) ≡ true → b < 128
ascii_hyphen b t = grind (arith, nat_tests, t)

utf8_after : (b : ℕ) (rest : Text) → (b == 45) ≡ true → IsUtf8 (b ∷ rest) → IsUtf8 rest
utf8_after b rest t u =
    let one : b ∷ rest ≡ encode_utf8 b ++ rest = ap (λ s. s ++ rest) (sym (encode_ascii b (ascii_hyphen b t))) in
    IsUtf8-past_char (b ∷ rest) rest b u one

char_after : (rest flags : Text) → IsUtf8 rest → short_of_rest rest ≡ Some flags → (y : ℕ) × (slice_get (chars flags) 0 ≡ Some y)
char_after [] flags u e = cc
char_after (x ∷ xs) flags u e =
    elim (x == 45) as (λ (b : Bool). (if b then None else Some (x ∷ xs)) ≡ Some flags → (y : ℕ) × (slice_get (chars flags) 0 ≡ Some y)) [
      | true ↦ λ t. cc
      | false ↦ λ t. let same : x ∷ xs ≡ flags = cc in
          subst (λ (s : Text). (y : ℕ) × (slice_get (chars s) 0 ≡ Some y)) same (some_char (x ∷ xs) u x xs refl)
    ] e

pub has_char : (word : Text) → IsUtf8 word → HasChar word
has_char [] u flags e = cc
has_char (b ∷ rest) u flags e =
    elim (b == 45) as (λ (t : Bool). (b == 45) ≡ t → option_and_then short_of_rest (if t then Some rest else None) ≡ Some flags
    → (y : ℕ) × (slice_get (chars flags) 0 ≡ Some y))
    [ true ↦ λ t h. char_after rest flags (utf8_after b rest t u) h | false ↦ λ t h. cc ] refl e

pub have_chars : (ws : List Text) → AllByRecursion IsUtf8 ws → AllByRecursion HasChar ws
have_chars [] h = tt
have_chars (word ∷ ws) h = (has_char word h.0, have_chars ws h.1)

-- ---- no default and no rule on what is required is broken

option_default_fault : (m : Text) (rows : List Row) → is_none (default_fault rows (option_built m)) ≡ true
option_default_fault m rows =
    elim (has_row m rows) as (λ (b : Bool). is_none (if b || true then [] else given_default_fault (option_built m) []) ≡ true) [ true ↦ refl | false ↦ refl ]

flag_default_fault : (m : Text) (rows : List Row) → is_none (default_fault rows (flag_built m)) ≡ true
flag_default_fault m rows =
    elim (has_row m rows) as (λ (b : Bool). is_none (if b || false then [] else given_default_fault (flag_built m) (codes "false" ∷ [])) ≡ true)
    [ true ↦ refl | false ↦ refl ]

flag_defaults : (ms : List Text) (rows : List Row) → is_none (defaults_fault rows (map flag_built ms)) ≡ true
unfolding defaults_fault
flag_defaults [] rows = refl
flag_defaults (m ∷ ms) rows =
    rw (none_or_else (default_fault rows (flag_built m)) (defaults_fault (with_default rows (flag_built m)) (map flag_built ms)), flag_default_fault m rows)
    (flag_defaults ms (with_default rows (flag_built m)))

all_defaults : (ns fs : List Text) (rows : List Row) → is_none (defaults_fault rows (rules ns fs)) ≡ true
unfolding defaults_fault
all_defaults [] fs rows = flag_defaults fs rows
all_defaults (n ∷ ns) fs rows =
    rw (none_or_else (default_fault rows (option_built n)) (defaults_fault (with_default rows (option_built n)) (rules ns fs)), option_default_fault n rows)
    (all_defaults ns fs (with_default rows (option_built n)))

flags_optional : (fs : List Text) (rows : List Row) → list_any (λ a. a.required && not (is_given a.id rows)) (map flag_built fs) ≡ false
flags_optional [] rows = refl
flags_optional (f ∷ fs) rows = flags_optional fs rows

all_optional : (ns fs : List Text) (rows : List Row) → list_any (λ a. a.required && not (is_given a.id rows)) (rules ns fs) ≡ false
all_optional [] fs rows = flags_optional fs rows
all_optional (n ∷ ns) fs rows = all_optional ns fs rows

-- ---- one level of the parse

module _ (title : Text) (ns fs : List Text) where
  -- the walk accepts the words
  abbrev accepts : Walk → List Text → Bool
  accepts w ws = is_none (walk_fault (shape_for title ns fs) [] w ws) && settles title ns fs (fold (walked (rules ns fs) []) w ws).held

  run_is : (ws : List Text) (w : Walk) → run title ns fs w ws
      ≡ (if accepts w ws then Some (rows_settled title ns fs (fold (walked (rules ns fs) []) w ws).held) else None)
  unfolding walk_fault
  run_is [] w = refl
  run_is (word ∷ ws) w =
      let fault = turn_fault (shape_for title ns fs) [] w word in
      let next = walked (rules ns fs) [] w word in
      let last = (fold (walked (rules ns fs) []) next ws).held in
      rw (none_or_else fault (walk_fault (shape_for title ns fs) [] next ws))
      (elim (is_none fault) as (λ (b : Bool). option_and_then (λ v. run title ns fs v ws) (if b then Some next else None)
      ≡ (if (b && is_none (walk_fault (shape_for title ns fs) [] next ws)) && settles title ns fs last then Some (rows_settled title ns fs last) else None))
      [ true ↦ run_is ws next | false ↦ refl ])

  check_none : (rows : List Row) → is_none (check_fault (shape_for title ns fs) rows false) ≡ true
  check_none rows = rw (all_optional ns fs rows) refl

  level_is : (ws : List Text) → is_none (level_fault (shape_for title ns fs) [] nothing_held ws false []) ≡ accepts (walk_from nothing_held) ws
  level_is ws =
      let last = (walk (rules ns fs) [] nothing_held ws).held in
      let walked_fault = walk_fault (shape_for title ns fs) [] (walk_from nothing_held) ws in
      let pending_fault = settle_fault (rules ns fs) false last in
      let defaults = defaults_fault (settled (rules ns fs) last).rows (rules ns fs) in
      let checks = check_fault (shape_for title ns fs) (finished (rules ns fs) last) false in
      rw (
        none_or_else walked_fault (or_else [] (or_else pending_fault (or_else defaults checks))),
        none_or_else pending_fault (or_else defaults checks),
        none_or_else defaults checks,
        all_defaults ns fs (settled (rules ns fs) last).rows,
        check_none (finished (rules ns fs) last),
      ) (rw (and-true (is_none pending_fault)) refl)

-- ---- the whole

abbrev last_held : OptionSet → List Text → Held
last_held set ws = (walk (rules (row_in set).options (row_in set).flags) [] nothing_held ws).held

takes_is : (set : OptionSet) (program : Text) (ws : List Text) → takes_words set (program ∷ ws)
    ≡ accepts (row_in set).word (row_in set).options (row_in set).flags (walk_from nothing_held) ws
unfolding takes_words
takes_is set program ws =
    ap is_none (ap (built_fault (built (app_for set)) nothing_held) ((is_flat set).arguments program ws)
    ∙ (leaf_fault (built (app_for set)) nothing_held ws (is_flat set).subs
    ∙ ap (λ (s : Shape). level_fault s [] nothing_held ws false []) (is_flat set).top))
    ∙ level_is (row_in set).word (row_in set).options (row_in set).flags ws

rows_are : (set : OptionSet) (program : Text) (ws : List Text) → matches_of (app_for set) (program ∷ ws)
    ≡ finished (rules (row_in set).options (row_in set).flags) (last_held set ws)
rows_are set program ws =
    ap (λ (s : Shape). rows_after s.rules (names_of (built (app_for set))) (argument_words (app_for set) (program ∷ ws))) (is_flat set).top
    ∙ (ap (λ (subs : List Shape). rows_after (rules (row_in set).options (row_in set).flags) (map label_of subs) (argument_words (app_for set) (program ∷ ws))) (is_flat set).subs
    ∙ ap (rows_after (rules (row_in set).options (row_in set).flags) []) ((is_flat set).arguments program ws))

texts_is : (set : OptionSet) (program : Text) (ws : List Text) → texts_given set (program ∷ ws)
    ≡ texts_in (rows_settled (row_in set).word (row_in set).options (row_in set).flags (last_held set ws))
unfolding texts_given
texts_is set program ws = ap texts_in (rows_are set program ws)
    ∙ texts_finished (row_in set).options (row_in set).flags (rows_settled (row_in set).word (row_in set).options (row_in set).flags (last_held set ws))

if_map : {A B : Type 0} (f : A → B) (b : Bool) (x : A) → (if b then Some (f x) else None) ≡ option_map f (if b then Some x else None)
if_map f true x = refl
if_map f false x = refl

out_texts : (r : Option (List Use)) → option_map texts_in (out [] r)
    ≡ option_map texts_of_uses (option_and_then (λ us. if are_new [] us then Some us else None) r)
out_texts None = refl
out_texts (Some us) =
    elim (are_new [] us) as (λ (b : Bool). option_map texts_in (if b then Some (map row_of_use us) else None)
    ≡ option_map texts_of_uses (if b then Some us else None))
    [ true ↦ ap (λ t. Some t) (texts_same us) | false ↦ refl ]

pub spelled_out : IsSpelledOut
spelled_out set program ws text =
    let title = (row_in set).word in
    let ns = (row_in set).options in
    let fs = (row_in set).flags in
    let ran = run_is title ns fs ws (walk_from nothing_held) in
    let read = (runs title ns fs ws (have_chars ws text)).0 [] None [] (λ _. refl) in
    rw (takes_is set program ws, texts_is set program ws)
    (if_map texts_in (accepts title ns fs (walk_from nothing_held) ws) (rows_settled title ns fs (last_held set ws))
    ∙ (ap (option_map texts_in) (sym ran ∙ read) ∙ out_texts (read_words ns fs None ws)))

-- ---- the whole line

text_dropped : (k : ℕ) (ws : List Text) → AllByRecursion IsUtf8 ws → AllByRecursion IsUtf8 (drop k ws)
text_dropped zero ws h = h
text_dropped (suc k) [] h = tt
text_dropped (suc k) (w ∷ ws) h = text_dropped k ws h.1

-- what was given behind the files, and what is said of it
abbrev said_by : Command → Option Texts → List Text → Option RequestData
said_by c texts files = option_and_then (λ (asked : List Text × Texts). said c asked.0 asked.1) (option_map (λ (t : Texts). (files, t)) texts)

under_files : (c : Command) (given_texts : Option Texts) (us : Option (List Use)) (o : Option (List Text)) → given_texts ≡ option_map texts_of_uses us
    → option_and_then (λ (asked : List Text × Texts). said c asked.0 asked.1) (option_and_then (λ files. option_map (λ (t : Texts). (files, t)) given_texts) o)
    ≡ option_and_then (λ files. option_and_then (λ u. said c files (texts_of_uses u)) us) o
under_files c given_texts us None e = refl
under_files c given_texts us (Some files) e =
    ap (λ (t : Option Texts). said_by c t files) e ∙ each us
  where
    each : (us : Option (List Use)) → said_by c (option_map texts_of_uses us) files ≡ option_and_then (λ u. said c files (texts_of_uses u)) us
    each None = refl
    each (Some u) = refl

line_spelled : (c : Command) (program word : Text) (rest : List Text) → AllByRecursion IsUtf8 (program ∷ word ∷ rest)
    → line_of c (program ∷ word ∷ rest) ≡ spelled_of c (program ∷ word ∷ rest)
line_spelled c program word rest text =
    let words = drop (2 + file_count c) (program ∷ word ∷ rest) in
    let set = OfCommand c in
    under_files c (given set (program ∷ words)) (uses_in (row_in set).options (row_in set).flags words) (files_in 2 (file_count c) (program ∷ word ∷ rest))
    (spelled_out set program words (text_dropped (2 + file_count c) (program ∷ word ∷ rest) text))

pub spelled_whole : IsSpelledLine
spelled_whole [] text = refl
spelled_whole (program ∷ []) text = refl
spelled_whole (program ∷ word ∷ rest) text = by_command (command_named word)
  where
    by_command : (o : Option Command) → option_and_then (λ c. line_of c (program ∷ word ∷ rest)) o
        ≡ option_and_then (λ c. spelled_of c (program ∷ word ∷ rest)) o
    by_command None = refl
    by_command (Some c) = line_spelled c program word rest text
