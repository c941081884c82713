-- A talk, byte by byte.
use Rattle.std.proofs.Common.{◌≡◌, ℕ, ◌+◌, ◌-◌, ◌^◌, ◌<◌, ◌≤◌, Bool, true, false, List, [], ◌∷◌, ◌++◌, length, take, arith, refl, sym, ap, inl, inr, ◌∙◌, append_assoc, append-nil, length-append, length-take-le, nat_lt, ltb-false}
use Rattle.std.proofs.lemmas.Bool.Decides.{Decides-ltb}
use Rattle.fs_outside.specs.Stream.{Reads}
use Rattle.debugger.specs.Talk.{TalkData, Talks, Served, TakesBytes, TakesByte, TakesNext, IsTalk}
use Rattle.debugger.specs.Talk.Talks.{none, more, left}

pub served_none : (t : TalkData) (before : List ℕ) → Served t t [] before before
served_none t before = record { text = []; talks = none t; written = sym (append-nil before) }

served_by : (b : Bool) (t t' t'' : TalkData) (bytes : List ℕ) (byte : ℕ) (before between after : List ℕ) → t'.over ≡ b → Served t t' bytes before between → TakesByte t' byte t'' between after → Served t t'' (bytes ++ byte ∷ []) before after
served_by true t t' t'' bytes byte before between after e h k =
    let same = k.over e in
    rw (same.0, same.1) (record { text = h.text; talks = left t t' bytes byte h.text h.talks e; written = h.written })
served_by false t t' t'' bytes byte before between after e h k =
    let heard = k.hears e in
    record {
      text = h.text ++ k.out;
      talks = more t t' t'' bytes byte h.text k.out h.talks e heard.0;
      written = heard.1 ∙ ap (λ (x : List ℕ). x ++ k.out) h.written ∙ append_assoc before h.text k.out;
    }

-- one byte more
pub served_more : (t t' t'' : TalkData) (bytes : List ℕ) (byte : ℕ) (before between after : List ℕ) → Served t t' bytes before between → TakesByte t' byte t'' between after → Served t t'' (bytes ++ byte ∷ []) before after
served_more t t' t'' bytes byte before between after h k = served_by t'.over t t' t'' bytes byte before between after refl h k

-- some bytes, and then some more
pub talks_on : (t t' t'' : TalkData) (xs ys out out' : List ℕ) → Talks t xs t' out → Talks t' ys t'' out' → Talks t (xs ++ ys) t'' (out ++ out')
talks_on t t' t'' xs ys out out' h (none u) = rw (append-nil xs, append-nil out) h
talks_on t t' t'' xs ys out out' h (more u v w bytes byte text new k over hears) =
    rw (sym (append_assoc xs bytes (byte ∷ [])), sym (append_assoc out text new))
    (more t v w (xs ++ bytes) byte (out ++ text) new (talks_on t u v xs bytes out text h k) over hears)
talks_on t t' t'' xs ys out out' h (left u v bytes byte text k over) =
    rw (sym (append_assoc xs bytes (byte ∷ [])))
    (left t v (xs ++ bytes) byte (out ++ text) (talks_on t u v xs bytes out text h k) over)

served_on : (t t' t'' : TalkData) (xs ys before between after : List ℕ) → Served t t' xs before between → Served t' t'' ys between after → Served t t'' (xs ++ ys) before after
served_on t t' t'' xs ys before between after h k = record {
  text = h.text ++ k.text;
  talks = talks_on t t' t'' xs ys h.text k.text h.talks k.talks;
  written = k.written ∙ ap (λ (x : List ℕ). x ++ k.text) h.written ∙ append_assoc before h.text k.text;
}

-- ---- pieces

-- nothing is left after an end
end_left : (l l' buf : List ℕ) → l ≡ take 0 buf ++ l' → l ≡ [] → l' ≡ []
end_left l l' buf next empty = sym next ∙ empty

-- a piece was read, and taken
pub takes_next : (t t' : TalkData) (l l' before after buf buf' : List ℕ) (n : ℕ) → n ≤ length buf' → 0 < length buf → Reads l l' buf buf' n → Served t t' (take n buf') before after → TakesNext t t' l l' before after (nat_lt 0 n)
takes_next t t' l l' before after buf buf' n fits room reads served =
    let size : length (take n buf') ≡ n = length-take-le n buf' fits in
    record {
      bytes = take n buf';
      takes = record { left_is = reads.next; served = served };
      some = λ e. let low : 0 < n = (Decides-ltb 0 n).0 e in omega (arith, size, low);
      ends = λ e. let zero_bytes : n ≡ 0 = omega (arith, ltb-false 0 n e) in end_left l l' buf' (rw zero_bytes at reads.next) (reads.ends zero_bytes room);
    }

-- at least n bytes were taken
pub record TalksTo (t t' : TalkData) (left left' before after : List ℕ) (n : ℕ) : Type 0 where
  pub bytes : List ℕ
  pub takes : TakesBytes t t' bytes left left' before after
  pub some : n ≤ length bytes

pub talks_to_none : (t : TalkData) (l before : List ℕ) → TalksTo t t l l before before 0
talks_to_none t l before = record { bytes = []; takes = record { left_is = refl; served = served_none t before }; some = omega arith }

module _ (t t' t'' : TalkData) (l l' l'' before between after : List ℕ) where
  takes_on : (xs ys : List ℕ) → TakesBytes t t' xs l l' before between → TakesBytes t' t'' ys l' l'' between after → TakesBytes t t'' (xs ++ ys) l l'' before after
  takes_on xs ys h k = record {
    left_is = h.left_is ∙ ap (λ (x : List ℕ). xs ++ x) k.left_is ∙ sym (append_assoc xs ys l'');
    served = served_on t t' t'' xs ys before between after h.served k.served;
  }

  -- a piece more
  pub talks_to_more : (n : ℕ) (b : Bool) → b ≡ true → TalksTo t t' l l' before between n → TakesNext t' t'' l' l'' between after b → TalksTo t t'' l l'' before after (n + 1)
  talks_to_more n b e h k =
      let some = k.some e in
      let size : length (h.bytes ++ k.bytes) ≡ length h.bytes + length k.bytes = length-append h.bytes k.bytes in
      record { bytes = h.bytes ++ k.bytes; takes = takes_on h.bytes k.bytes h.takes k.takes; some = omega (arith, size, some, h.some) }

  -- the last piece
  pub talk_at_end : (n : ℕ) (b : Bool) → b ≡ false → TalksTo t t' l l' before between n → TakesNext t' t'' l' l'' between after b → IsTalk t t'' l l'' before after
  talk_at_end n b e h k = record { bytes = h.bytes ++ k.bytes; takes = takes_on h.bytes k.bytes h.takes k.takes; ends = inl (k.ends e) }

  -- GDB leaves
  pub talk_left : (n : ℕ) (b : Bool) → t''.over ≡ true → TalksTo t t' l l' before between n → TakesNext t' t'' l' l'' between after b → IsTalk t t'' l l'' before after
  talk_left n b e h k = record { bytes = h.bytes ++ k.bytes; takes = takes_on h.bytes k.bytes h.takes k.takes; ends = inr (inl e) }

-- there were too many pieces
pub talk_too_long : (t t' : TalkData) (l l' before after : List ℕ) (n : ℕ) → 2 ^ 64 - 1 ≤ n → TalksTo t t' l l' before after n → IsTalk t t' l l' before after
talk_too_long t t' l l' before after n many h = record {
  bytes = h.bytes;
  takes = h.takes;
  ends = inr (inr (omega (arith, many, h.some)));
}
