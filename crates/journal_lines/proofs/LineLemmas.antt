-- Lines that were ended are the lines of their text.
use Rattle.std.proofs.Common.{◌≡◌, ◌+◌, ◌-◌, ◌++◌, ◌==◌, ℕ, List, [], ◌∷◌, Bool, true, false, length, get_or}
use Rattle.std.proofs.Common.{slice_index, arith, refl, ap, ◌∙◌, append_assoc, sym, length-append, zero, suc, ◌<◌, ◌≤◌}
use Rattle.std.proofs.Common.{drop, take, subst, Option, Some, None, position, inl, inr, take-append-drop, append-nil}
use Rattle.std.proofs.Common.{◌⊎◌, not}
use Rattle.std.proofs.lemmas.Grind.{common_steps}
use Rattle.std.proofs.lemmas.Bool.{and_parts, cases_Bool, cases_lt, eqb-true, ltb-true, not-true, ne_eqb}
use Rattle.std.specs.List.{list_all, position_or_len, slice_split}
use Rattle.std.proofs.lemmas.List.Sums.{AllPass-from_list_all, passes_at_first}
use Rattle.std.proofs.lemmas.List.{length-drop, get_or_at, take_at}
use Rattle.std.proofs.Math.Seq.{drop-cons}
use lib.Dec.{ltb}
use Rattle.std.proofs.lemmas.List.Splits.{slice_split_at, slice_split_none}
use Rattle.journal_lines.specs.Comment.{has_no}
use Rattle.journal_lines.specs.Lines.{ends_in_return, without_return, IsEnd, IsLastEnd, BeginsWith, MakeUp, lines}
use Rattle.journal_lines.proofs.CutLemmas.{before_none, all_take, all_joined}
use Rattle.journal_lines.specs.Printed.{is_clean, ended}
use Rattle.journal_lines.proofs.LineSteps.{first_part, found_place, none_place, lines_found, lines_last}

clean_no_feed : (b : ℕ) → is_clean b ≡ true → (b == 10) ≡ false
clean_no_feed b h = grind (arith, common_steps)

clean_no_return : (b : ℕ) → is_clean b ≡ true → (b == 13) ≡ false
clean_no_return b h = grind (arith, common_steps)

no_return : (line : List ℕ) → list_all is_clean line ≡ true → without_return line ≡ line
no_return [] h = refl
no_return (b ∷ bs) h =
    let last = AllPass-from_list_all is_clean (b ∷ bs) h (length (b ∷ bs) - 1) 0 (omega arith) in
    rw (clean_no_return (slice_index (b ∷ bs) (length (b ∷ bs) - 1)) last) refl

-- the first line of a text
pub lines_more : (line rest : List ℕ) → list_all is_clean line ≡ true → lines (line ++ 10 ∷ rest) ≡ line ∷ lines rest
lines_more line rest h =
    let p : ℕ → Bool = λ b. b == 10 in
    let split = slice_split_at p line 10 rest
    (λ k d l. clean_no_feed (get_or line k d) (AllPass-from_list_all is_clean line h k d l)) refl in
    let more = first_part p rest in
    rw (split, more.2, no_return line h) refl

pub lines_ended : (ls : List (List ℕ)) → list_all (list_all is_clean) ls ≡ true → lines (ended ls) ≡ ls
lines_ended [] h = refl
lines_ended (line ∷ ls) h =
    let parts = and_parts (list_all is_clean line) _ h in
    ap lines (append_assoc line (10 ∷ []) (ended ls)) ∙
    (lines_more line (ended ls) parts.0 ∙ ap (λ (xs : List (List ℕ)). line ∷ xs) (lines_ended ls parts.1))

pub ended-append : (xs ys : List (List ℕ)) → ended (xs ++ ys) ≡ ended xs ++ ended ys
ended-append [] ys = refl
ended-append (x ∷ xs) ys = ap (λ (t : List ℕ). (x ++ 10 ∷ []) ++ t) (ended-append xs ys) ∙ sym
    (append_assoc (x ++ 10 ∷ []) (ended xs) (ended ys))

pub size-append : (xs ys : List (List ℕ)) → length (ended (xs ++ ys)) ≡ length (ended xs) + length (ended ys)
size-append xs ys = ap length (ended-append xs ys) ∙ length-append (ended xs) (ended ys)

pub all_lines : (xs ys : List (List ℕ)) → list_all (list_all is_clean) xs ≡ true
    → list_all (list_all is_clean) ys ≡ true → list_all (list_all is_clean) (xs ++ ys) ≡ true
all_lines [] ys h k = k
all_lines (x ∷ xs) ys h k = let parts = and_parts (list_all is_clean x) _ h in rw (parts.0) (all_lines xs ys parts.1 k)

-- ---- a text is its lines, and these alone

take_all : (n : ℕ) (ys : List ℕ) → length ys ≤ n → take n ys ≡ ys
take_all n ys h = grind (arith, common_steps)

drop_all : (n : ℕ) (ys : List ℕ) → length ys ≤ n → drop n ys ≡ []
drop_all n ys h = grind (arith, common_steps)

get_or_past : (n : ℕ) (ys : List ℕ) → length ys ≤ n → slice_index ys n ≡ 0
get_or_past n ys h = grind (arith, common_steps)

-- the CR that was left out of a line
cut_return : (xs : List ℕ) → (end : List ℕ)
    × ((xs ≡ without_return xs ++ end)
    × ((end ≡ 13 ∷ []) ⊎ ((end ≡ []) × ((without_return xs ≡ xs) × (ends_in_return xs ≡ false)))))
cut_return xs = elim (cases_Bool (ends_in_return xs)) [
  | inl cr ↦ (let byte : slice_index xs (length xs - 1) ≡ 13 = eqb-true _ 13 cr in
      let some : 0 < length xs = elim (cases_lt 0 (length xs)) [
        | inl s ↦ s
        | inr none ↦ absurd
            (let past : slice_index xs (length xs - 1) ≡ 0 =
            get_or_past (length xs - 1) xs (omega (arith, none)) in omega (arith, past, byte))
      ] in
      let nothing : drop (suc (length xs - 1)) xs ≡ [] = drop_all (suc (length xs - 1)) xs (omega (arith, some)) in
      let last : drop (length xs - 1) xs ≡ 13 ∷ [] =
      drop-cons xs (length xs - 1) 0 (omega (arith, some)) ∙
      (ap (λ (b : ℕ). b ∷ drop (suc (length xs - 1)) xs) byte ∙ ap (λ (ys : List ℕ). 13 ∷ ys) nothing) in
      rw cr (
        13 ∷ [],
        (
          sym (take-append-drop (length xs - 1) xs) ∙ ap (λ (ys : List ℕ). take (length xs - 1) xs ++ ys)
              last,
          inl refl,
        ),
      ))
  | inr other ↦ rw other ([], (sym (append-nil xs), inr (refl, (refl, refl))))
]

-- a line's bytes are the text's
no_feed : (xs : List ℕ) → has_no 10 xs ≡ true → has_no 10 (without_return xs) ≡ true
no_feed xs h = elim (cases_Bool (ends_in_return xs)) [
  | inl cr ↦ rw cr (all_take (λ b. not (b == 10)) (length xs - 1) xs h)
  | inr other ↦ rw other h
]

-- an end with its line feed
with_feed : (xs end : List ℕ) → (end ≡ 13 ∷ [])
    ⊎ ((end ≡ []) × ((without_return xs ≡ xs) × (ends_in_return xs ≡ false)))
    → IsEnd (without_return xs) (end ++ 10 ∷ [])
with_feed xs end (inl e) = inl (ap (λ (ys : List ℕ). ys ++ 10 ∷ []) e)
with_feed xs end (inr e) = inr (ap (λ (ys : List ℕ). ys ++ 10 ∷ []) e.0, ap ends_in_return e.1.0 ∙ e.1.1)

without_feed : (xs end : List ℕ) → 0 < length xs
    → (end ≡ 13 ∷ []) ⊎ ((end ≡ []) × ((without_return xs ≡ xs) × (ends_in_return xs ≡ false)))
    → IsLastEnd (without_return xs) end
without_feed xs end some (inl e) = inl e
without_feed xs end some (inr e) = inr (e.0, (omega (arith, some, ap length e.1.0), ap ends_in_return e.1.0 ∙ e.1.1))

append_assoc_newline : (line end rest : List ℕ) → (line ++ end) ++ (10 ∷ rest) ≡ line ++ ((end ++ 10 ∷ []) ++ rest)
append_assoc_newline line end rest = simp append_assoc

-- a text is its lines, each with its end
made_up : (n : ℕ) (text : List ℕ) → length text ≤ n → MakeUp (lines text) text
made_up n [] h = refl
made_up zero (x ∷ xs) h = absurd (omega arith)
made_up (suc n) (x ∷ xs) h =
    at (x ∷ xs) (λ rest small. made_up n rest small) (omega arith) h (position (λ b. b == 10) (x ∷ xs)) refl
  where
    at : (text : List ℕ) → ((rest : List ℕ) → length rest ≤ n → MakeUp (lines rest) rest) → 0 < length text
        → length text ≤ suc n → (o : Option ℕ) → o ≡ position (λ b. b == 10) text → MakeUp (lines text) text
    at text again some small None e =
        let cut = cut_return text in
        let whole : take (position_or_len (λ b. b == 10) text) text ≡ text =
        take_all (position_or_len (λ b. b == 10) text) text (omega (arith, none_place (λ b. b == 10) text e)) in
        let front : BeginsWith (without_return text) text = record {
          end = cut.0;
          rest = [];
          written = cut.1.0 ∙ ap (λ (xs : List ℕ). without_return text ++ xs) (sym (append-nil cut.0));
          one = no_feed text (subst (λ (xs : List ℕ). has_no 10 xs ≡ true) whole (before_none (λ b. b == 10) text));
        } in
        subst (λ (ls : List (List ℕ)). MakeUp ls text) (sym (lines_last text some e))
        (front, inr (without_feed text cut.0 some cut.1.1, (refl, refl)))
    at text again some small (Some i) e =
        let found = lines_found text i e in
        let place = found_place (ltb (position_or_len (λ b. b == 10) text) (length text)) i
        (position_or_len (λ b. b == 10) text) e in
        let inside : position_or_len (λ b. b == 10) text < length text = ltb-true _ _ place.0 in
        let feed : get_or text i 0 ≡ 10 =
        ap (λ (k : ℕ). get_or text k 0) place.1 ∙ eqb-true _ 10 (passes_at_first (λ b. b == 10) text 0 inside) in
        let next : suc i ≡ i + 1 = omega arith in
        let tail : drop i text ≡ 10 ∷ drop (i + 1) text =
        drop-cons text i 0 found.1 ∙
        (ap (λ (b : ℕ). b ∷ drop (suc i) text) feed ∙ ap (λ (k : ℕ). 10 ∷ drop k text) next) in
        let whole : text ≡ take i text ++ (10 ∷ drop (i + 1) text) =
        sym (take-append-drop i text) ∙ ap (λ (xs : List ℕ). take i text ++ xs) tail in
        let cut = cut_return (take i text) in
        let front : BeginsWith (without_return (take i text)) text = record {
          end = cut.0 ++ 10 ∷ [];
          rest = drop (i + 1) text;
          written = whole ∙ (ap (λ (xs : List ℕ). xs ++ (10 ∷ drop (i + 1) text)) cut.1.0 ∙ append_assoc_newline
              (without_return (take i text)) cut.0 (drop (i + 1) text));
          one =
              no_feed (take i text) (ap (λ (k : ℕ). has_no 10 (take k text)) place.1 ∙ before_none (λ b. b == 10) text);
        } in
        subst (λ (ls : List (List ℕ)). MakeUp ls text) (sym found.0) (
          front,
          inl (
            with_feed (take i text) cut.0 cut.1.1,
            again (drop (i + 1) text) (omega (arith, length-drop (i + 1) text, small, found.1)),
          ),
        )

pub lines_make_up : (text : List ℕ) → MakeUp (lines text) text
lines_make_up text = made_up (length text) text (omega arith)

-- the CR of an end is left out, and no other
cut_one : (line : List ℕ) → without_return (line ++ 13 ∷ []) ≡ line
cut_one line =
    let n : length (line ++ 13 ∷ []) - 1 ≡ length line = omega (arith, length-append line (13 ∷ [])) in
    let last : slice_index (line ++ 13 ∷ []) (length (line ++ 13 ∷ []) - 1) ≡ 13 =
    get_or_at line 13 [] 0 (length (line ++ 13 ∷ []) - 1) (omega (arith, n)) in
    rw last (take_at line (13 ∷ []) (length (line ++ 13 ∷ []) - 1) (omega (arith, n)))

cut_none : (line : List ℕ) → ends_in_return line ≡ false → without_return line ≡ line
cut_none line h = rw h refl

-- the first line before a line feed
lines_before_feed : (front rest : List ℕ) → has_no 10 front ≡ true
    → lines (front ++ 10 ∷ rest) ≡ without_return front ∷ lines rest
lines_before_feed front rest h =
    let p : ℕ → Bool = λ b. b == 10 in
    let split = slice_split_at p front 10 rest
    (λ k d l. not-true _ (AllPass-from_list_all (λ b. not (b == 10)) front h k d l)) refl in
    let more = first_part p rest in
    rw (split, more.2) refl

-- a text without a line feed is one line
lines_of_one : (text : List ℕ) → 0 < length text → has_no 10 text ≡ true → lines text ≡ without_return text ∷ []
lines_of_one text some h =
    let whole : slice_split (λ b. b == 10) text ≡ text ∷ [] =
    slice_split_none (λ b. b == 10) text
    (λ k d l. not-true _ (AllPass-from_list_all (λ b. not (b == 10)) text h k d l)) in
    rw (whole, ne_eqb (length text) 0 (omega (arith, some))) refl

-- lines that make up a text are its lines
pub made_up_alone : (ls : List (List ℕ)) (text : List ℕ) → MakeUp ls text → ls ≡ lines text
made_up_alone [] text h = ap lines (sym h)
made_up_alone (line ∷ more) text h = at (λ rest made. made_up_alone more rest made) h.0 h.1
  where
    ended : (end rest : List ℕ) → has_no 10 line ≡ true → IsEnd line end
        → lines (line ++ (end ++ rest)) ≡ line ∷ lines rest
    ended end rest one (inl e) =
        ap (λ (xs : List ℕ). lines (line ++ (xs ++ rest))) e
        ∙ (ap lines (sym (append_assoc line (13 ∷ []) (10 ∷ rest)))
        ∙ (lines_before_feed (line ++ 13 ∷ []) rest (all_joined (λ b. not (b == 10)) line (13 ∷ []) one refl) ∙ ap
        (λ (xs : List ℕ). xs ∷ lines rest) (cut_one line)))
    ended end rest one (inr e) =
        ap (λ (xs : List ℕ). lines (line ++ (xs ++ rest))) e.0 ∙
        (lines_before_feed line rest one ∙ ap (λ (xs : List ℕ). xs ∷ lines rest) (cut_none line e.1))

    last : (end rest : List ℕ) → has_no 10 line ≡ true → IsLastEnd line end → rest ≡ []
        → lines (line ++ (end ++ rest)) ≡ line ∷ []
    last end rest one (inl e) none =
        ap (λ (xs : List ℕ). lines (line ++ (end ++ xs))) none
        ∙ (ap (λ (xs : List ℕ). lines (line ++ (xs ++ []))) e
        ∙ (lines_of_one (line ++ 13 ∷ []) (omega (arith, length-append line (13 ∷ [])))
        (all_joined (λ b. not (b == 10)) line (13 ∷ []) one refl) ∙ ap (λ (xs : List ℕ). xs ∷ []) (cut_one line)))
    last end rest one (inr e) none =
        ap (λ (xs : List ℕ). lines (line ++ (end ++ xs))) none
        ∙ (ap (λ (xs : List ℕ). lines (line ++ (xs ++ []))) e.0
        ∙ (ap lines (append-nil line) ∙
        (lines_of_one line e.1.0 one ∙ ap (λ (xs : List ℕ). xs ∷ []) (cut_none line e.1.1))))

    at : ((rest : List ℕ) → MakeUp more rest → more ≡ lines rest) → (front : BeginsWith line text)
        → (IsEnd line front.end × MakeUp more front.rest)
        ⊎ (IsLastEnd line front.end × ((front.rest ≡ []) × (more ≡ []))) → line ∷ more ≡ lines text
    at again front (inl k) = ap (λ (xs : List (List ℕ)). line ∷ xs) (again front.rest k.1) ∙
        (sym (ended front.end front.rest front.one k.0) ∙ ap lines (sym front.written))
    at again front (inr k) = ap (λ (xs : List (List ℕ)). line ∷ xs) k.1.1 ∙
        (sym (last front.end front.rest front.one k.0 k.1.0) ∙ ap lines (sym front.written))
