-- A talk that is broken off.
use Rattle.std.proofs.Common.{◌≡◌, ℕ, ◌+◌, false, List, [], ◌∷◌, ◌++◌, take, refl, sym, ap, subst, ◌∙◌, append_assoc, append-nil}
use Rattle.std.specs.Prelude.{Result, Ok, Err, IfOk, is_err}
use Rattle.fs_outside.specs.Stream.{Reads}
use Rattle.fs_outside.specs.Writing.{TookPart}
use Rattle.debugger.specs.Talk.{BrokenOff, Hears, Served, TalkData, is_input}
use Rattle.debugger.specs.Talk.Talks.{none, more}
use Rattle.debugger.specs.declared.serve.TalkFailure.{TalkFailure}
use Rattle.debugger.specs.declared.serve.TalkFailure.TheVariants.{InputFault, OutputFault, NoMemory}
use Rattle.debugger.proofs.Serving.{TalksTo, talks_on}

-- nothing of a text was taken
none_taken : (before text : List ℕ) → TookPart before before text
none_taken before text = record { taken = []; left = text; text_is = refl; bytes = sym (append-nil before) }

-- ---- at one byte

-- no memory was left to answer it
pub broken_unanswered : (t : TalkData) (byte : ℕ) (before : List ℕ) → BrokenOff NoMemory t (byte ∷ []) [] before before
broken_unanswered t byte before = record {
  talk = t;
  answered = [];
  rest = byte ∷ [];
  text = [];
  left_is = refl;
  talks = none t;
  part = none_taken before [];
  whole = λ e. sym (append-nil before);
  all = λ e. absurd cc;
}

pub heard_ok : {T E : Type 0} (r : Result T E) (P : Type 0) → is_err r ≡ false → IfOk r (λ _. P) → P
heard_ok (Ok x) P e h = h
heard_ok (Err x) P e h = absurd cc

-- the sink failed
pub broken_unwritten : (t t' : TalkData) (byte : ℕ) (out before after : List ℕ) → t.over ≡ false → Hears t byte t' out → TookPart before after out → BrokenOff OutputFault t (byte ∷ []) [] before after
broken_unwritten t t' byte out before after over hears part = record {
  talk = t';
  answered = byte ∷ [];
  rest = [];
  text = out;
  left_is = refl;
  talks = more t t t' [] byte [] out (none t) over hears;
  part = part;
  whole = λ e. absurd cc;
  all = λ e. absurd cc;
}

-- the source failed
pub broken_unread : (t : TalkData) (left left' before : List ℕ) → left' ≡ left → BrokenOff InputFault t left left' before before
broken_unread t left left' before e = record {
  talk = t;
  answered = [];
  rest = [];
  text = [];
  left_is = sym e;
  talks = none t;
  part = none_taken before [];
  whole = λ e. sym (append-nil before);
  all = λ e. refl;
}

-- ---- after other bytes, and before others

part_on : (before between after xs ys : List ℕ) → between ≡ before ++ xs → TookPart between after ys → TookPart before after (xs ++ ys)
part_on before between after xs ys e h = record {
  taken = xs ++ h.taken;
  left = h.left;
  text_is = ap (λ (x : List ℕ). xs ++ x) h.text_is ∙ sym (append_assoc xs h.taken h.left);
  bytes = h.bytes ∙ ap (λ (x : List ℕ). x ++ h.taken) e ∙ append_assoc before xs h.taken;
}

-- some bytes were answered before
pub broken_on : (why : TalkFailure) (t t' : TalkData) (xs left left' left'' before between after : List ℕ) → left ≡ xs ++ left' → Served t t' xs before between → BrokenOff why t' left' left'' between after → BrokenOff why t left left'' before after
broken_on why t t' xs left left' left'' before between after is h k = record {
  talk = k.talk;
  answered = xs ++ k.answered;
  rest = k.rest;
  text = h.text ++ k.text;
  left_is = is ∙ ap (λ (x : List ℕ). xs ++ x) k.left_is ∙ sym (append_assoc xs k.answered (k.rest ++ left''));
  talks = talks_on t t' k.talk xs k.answered h.text k.text h.talks k.talks;
  part = part_on before between after h.text k.text h.written k.part;
  whole = λ e. k.whole e ∙ ap (λ (x : List ℕ). x ++ k.text) h.written ∙ append_assoc before h.text k.text;
  all = k.all;
}

-- others follow those that were taken
pub broken_more : (why : TalkFailure) (t : TalkData) (ys rest left before after : List ℕ) → is_input why ≡ false → BrokenOff why t ys [] before after → BrokenOff why t (ys ++ (rest ++ left)) left before after
broken_more why t ys rest left before after other h = record {
  talk = h.talk;
  answered = h.answered;
  rest = h.rest ++ rest;
  text = h.text;
  left_is =
      ap (λ (x : List ℕ). x ++ (rest ++ left)) (h.left_is ∙ ap (λ (x : List ℕ). h.answered ++ x) (append-nil h.rest))
      ∙ append_assoc h.answered h.rest (rest ++ left)
      ∙ ap (λ (x : List ℕ). h.answered ++ x) (sym (append_assoc h.rest rest left));
  talks = h.talks;
  part = h.part;
  whole = h.whole;
  all = λ e. absurd cc;
}

-- in a piece, at one of its bytes
pub broken_in : (why : TalkFailure) (t t' : TalkData) (piece xs rest before between after : List ℕ) (byte : ℕ) → is_input why ≡ false → piece ≡ xs ++ (byte ∷ rest) → Served t t' xs before between → BrokenOff why t' (byte ∷ []) [] between after
    → BrokenOff why t piece [] before after
broken_in why t t' piece xs rest before between after byte other is h k =
    let end : rest ++ [] ≡ rest = append-nil rest in
    let whole : piece ≡ xs ++ ((byte ∷ []) ++ (rest ++ [])) = is ∙ ap (λ (x : List ℕ). xs ++ (byte ∷ x)) (sym end) in
    broken_on why t t' xs piece ((byte ∷ []) ++ (rest ++ [])) [] before between after whole h (broken_more why t' (byte ∷ []) rest [] between after other k)

-- in a piece that was read
pub broken_piece : (why : TalkFailure) (t : TalkData) (left left' buf buf' before after : List ℕ) (n : ℕ) → is_input why ≡ false → Reads left left' buf buf' n → BrokenOff why t (take n buf') [] before after → BrokenOff why t left left' before after
broken_piece why t left left' buf buf' before after n other reads h =
    let is : take n buf' ++ ([] ++ left') ≡ left = sym reads.next in
    subst (λ (x : List ℕ). BrokenOff why t x left' before after) is (broken_more why t (take n buf') [] left' before after other h)

-- after other pieces
pub broken_later : (why : TalkFailure) (t t' : TalkData) (left left' left'' before between after : List ℕ) (n : ℕ) → TalksTo t t' left left' before between n → BrokenOff why t' left' left'' between after → BrokenOff why t left left'' before after
broken_later why t t' left left' left'' before between after n h k = broken_on why t t' h.bytes left left' left'' before between after h.takes.left_is h.takes.served k
