-- Whatever continuation makes a text a head, one of fourteen short ends does, and it is no longer.
use Rattle.std.proofs.Common.{◌≡◌, Bool, true, false, Bor, map, ◌≤◌, ◌<◌, ◌+◌, ◌⊎◌, ◌++◌, ℕ, zero, suc, List, [], ◌∷◌}
use Rattle.std.proofs.Common.{length, get_or, take, codes, refl, ap, ◌∙◌, sym, subst, inl, inr, arith, append_assoc}
use Rattle.std.proofs.Common.{append-nil, length-append}
use Rattle.std.specs.Prelude.{All, IsTrue, if◌then◌else◌, ◌==◌}
use Rattle.std.proofs.lemmas.Bool.Decides.{Decides-eqb}
use Rattle.http_request.specs.Spaces.{spaces}
use Rattle.std.proofs.lemmas.List.Elements.{All-nil, All-cons, All-head, All-tail, All-take, recursion_from_All}
use Rattle.std.proofs.lemmas.List.{take_at, take_more, flat_map_more}
use Rattle.std.specs.List.{flat_map, AllByRecursion}
use Rattle.std.specs.Str.{IsUtf8}
use Rattle.httparse.specs.Grammar.{LineEnd, crlf, lf, print_end, print_blank, print_version, Field, print_field}
use Rattle.httparse.specs.Grammar.{IsField, print_section, IsToken, AllPass, is_token_byte, is_value_byte, is_uri_byte}
use Rattle.httparse.specs.Grammar.{RequestHead, IsRequestHead, print_request, HasNoRequest, MayBecomeRequest}
use Rattle.httparse.proofs.OpenLemmas.{letter_is_token}
use Rattle.http_request.specs.Head.{IsHead, NeverHead}
use Rattle.http_request.specs.Ending.{HasNoEnd}
use Rattle.httparse.proofs.GrammarLemmas.{cons-append, print_request-append}

-- the short ends
abbrev pub ends : List (List ℕ)
ends =
    codes "\n" ∷ codes "\n\n" ∷ codes ":\n\n"
    ∷ codes "1\n\n" ∷ codes ".1\n\n" ∷ codes "1.1\n\n" ∷ codes "/1.1\n\n" ∷ codes "P/1.1\n\n" ∷ codes "TP/1.1\n\n"
    ∷ codes "TTP/1.1\n\n" ∷ codes "HTTP/1.1\n\n"
    ∷ codes " / HTTP/1.1\n\n" ∷ codes "A / HTTP/1.1\n\n" ∷ codes "\nA / HTTP/1.1\n\n" ∷ []

abbrev pub end_at : ℕ → List ℕ
end_at j = get_or ends j []

-- one text is cut off inside another, or goes on after it
pub cut_at : (a b c d : List ℕ) → a ++ b ≡ c ++ d
    → ((k : List ℕ) × (a ≡ c ++ k) × (d ≡ k ++ b)) ⊎ ((k : List ℕ) × (c ≡ a ++ k) × (0 < length k) × (b ≡ k ++ d))
cut_at [] b [] d e = inl ([], refl, sym e)
cut_at [] b (y ∷ c) d e = inr (y ∷ c, refl, omega arith, e)
cut_at (x ∷ a) b [] d e = inl (x ∷ a, refl, sym e)
cut_at (x ∷ a) b (y ∷ c) d e = let h : x ≡ y = cc in let t : a ++ b ≡ c ++ d = cc in next h (cut_at a b c d t)
  where
    next : x ≡ y → ((k : List ℕ) × (a ≡ c ++ k) × (d ≡ k ++ b))
        ⊎ ((k : List ℕ) × (c ≡ a ++ k) × (0 < length k) × (b ≡ k ++ d))
        → ((k : List ℕ) × (x ∷ a ≡ (y ∷ c) ++ k) × (d ≡ k ++ b))
        ⊎ ((k : List ℕ) × (y ∷ c ≡ (x ∷ a) ++ k) × (0 < length k) × (b ≡ k ++ d))
    next h (inl (k, p, q)) = inl (k, ap (λ (z : ℕ). z ∷ a) h ∙ ap (λ (t : List ℕ). y ∷ t) p, q)
    next h (inr (k, p, l, q)) = inr (k, ap (λ (z : ℕ). z ∷ c) (sym h) ∙ ap (λ (t : List ℕ). x ∷ t) p, l, q)

prefix_pass : (test : ℕ → Bool) (a b c : List ℕ) → c ≡ a ++ b → AllPass test c → AllPass test a
prefix_pass test a b c is all =
    subst (λ (t : List ℕ). AllPass test t) (ap (take (length a)) is ∙ take_at a b (length a) refl)
    (All-take (λ x. IsTrue (test x)) (length a) c all)

empty_is : (n : ℕ) (a : List ℕ) → n ≡ length a → n ≡ 0 → a ≡ []
empty_is n [] e z = refl
empty_is n (x ∷ a) e z = absurd (omega arith)

-- ---- the section

section_assoc : (f : Field) (fs : List Field) (last : LineEnd)
    → print_section (f ∷ fs) last ≡ print_field f ++ print_section fs last
section_assoc f fs last = append_assoc (print_field f) (flat_map print_field fs) (print_end last)

field_parts : (f : Field) → print_field f ≡ f.name ++ (58 ∷ (f.raw ++ print_end f.end))
field_parts f = simp (append_assoc, cons-append)

end_long : (e : LineEnd) → 0 < length (print_end e)
end_long crlf = omega arith
end_long lf = omega arith

section_long : (fields : List Field) (last : LineEnd) → 0 < length (print_section fields last)
section_long fields last =
    (let e = length-append (flat_map print_field fields) (print_end last) in let l = end_long last in omega arith)

-- a section that a short end makes
pub record EndsSection (most : ℕ) (k k' : List ℕ) : Type 0 where
  pub fields : List Field
  pub last : LineEnd
  pub at : ℕ
  pub good : All IsField fields
  pub few : length fields ≤ most
  pub is : k ++ end_at at ≡ print_section fields last
  pub short : length (end_at at) ≤ length k'
  pub one : at < 14

-- one field line, that ends in this way, and the empty line
one_field : (most : ℕ) (k k' name raw : List ℕ) (e : LineEnd) (at : ℕ) → 0 < most
    → IsField (record { name = name; raw = raw; end = e })
    → k ++ end_at at ≡ name ++ (58 ∷ (raw ++ (print_end e ++ 10 ∷ [])))
    → length (end_at at) ≤ length k' → at < 14 → EndsSection most k k'
one_field most k k' name raw e at room good is short one =
    let f : Field = record { name = name; raw = raw; end = e } in
    record {
      fields = f ∷ [];
      last = lf;
      at = at;
      good = All-cons IsField f [] good (All-nil IsField);
      few = omega arith;
      is = is ∙ (tail ∙ sym (section_assoc f [] lf));
      short = short;
      one = one;
    }
  where
    tail : name ++ (58 ∷ (raw ++ (print_end e ++ 10 ∷ [])))
        ≡ print_field (record { name = name; raw = raw; end = e }) ++ print_section [] lf
    tail = simp (append_assoc, cons-append)

module _ (f : Field) (good : IsField f) (most : ℕ) (room : 0 < most) (after : List ℕ) (goes : 0 < length after) where
  -- cut off in its name
  in_name : (k n : List ℕ) → f.name ≡ k ++ n → (k' : List ℕ) → 3 ≤ length k' → EndsSection most k k'
  in_name [] n is k' long = record {
    fields = [];
    last = lf;
    at = 0;
    good = All-nil IsField;
    few = omega arith;
    is = refl;
    short = omega arith;
    one = omega arith;
  }
  in_name (x ∷ k) n is k' long =
      one_field most (x ∷ k) k' (x ∷ k) [] lf 2 room
      (record {
        name = (omega arith, prefix_pass is_token_byte (x ∷ k) n f.name is good.name.1);
        raw = All-nil (λ b. IsTrue (is_value_byte b));
      }) refl (omega arith) (omega arith)

  -- cut off after its colon
  in_raw : (k k' raw r : List ℕ) → k ≡ f.name ++ (58 ∷ raw) → f.raw ≡ raw ++ r → 2 ≤ length k' → EndsSection most k k'
  in_raw k k' raw r is part long =
      one_field most k k' f.name raw lf 1 room
      (record { name = good.name; raw = prefix_pass is_value_byte raw r f.raw part good.raw })
      (ap (λ (t : List ℕ). t ++ end_at 1) is ∙ simp (append_assoc, cons-append)) (omega arith) (omega arith)

  -- cut off in its line end
  in_end : (e : LineEnd) → f.end ≡ e → (k k2 k5 : List ℕ) → k ≡ f.name ++ (58 ∷ (f.raw ++ k5)) → print_end e ≡ k5 ++ k2
      → 0 < length k2 → (k' : List ℕ) → 2 ≤ length k' → EndsSection most k k'
  in_end lf same k k2 [] is end long k' two =
      in_raw k k' f.raw [] (is ∙ ap (λ (t : List ℕ). f.name ++ (58 ∷ t)) (append-nil f.raw)) (sym (append-nil f.raw))
      two
  in_end lf same k k2 (x ∷ k5) is end long k' two =
      absurd (let n = ap length end ∙ length-append (x ∷ k5) k2 in omega arith)
  in_end crlf same k k2 [] is end long k' two =
      in_raw k k' f.raw [] (is ∙ ap (λ (t : List ℕ). f.name ++ (58 ∷ t)) (append-nil f.raw)) (sym (append-nil f.raw))
      two
  in_end crlf same k k2 (x ∷ []) is end long k' two =
      let h : x ≡ 13 = cc in
      one_field most k k' f.name f.raw crlf 1 room (record { name = good.name; raw = good.raw })
      (ap (λ (t : List ℕ). t ++ end_at 1) (is ∙ ap (λ (z : ℕ). f.name ++ (58 ∷ (f.raw ++ z ∷ []))) h) ∙ simp
      (append_assoc, cons-append)) (omega arith) (omega arith)
  in_end crlf same k k2 (x ∷ y ∷ k5) is end long k' two =
      absurd (let n = ap length end ∙ length-append (x ∷ y ∷ k5) k2 in omega arith)

  by_raw : (k k2 k4 : List ℕ) → k ≡ f.name ++ (58 ∷ k4)
      → ((r : List ℕ) × (k4 ≡ f.raw ++ r) × (print_end f.end ≡ r ++ k2))
      ⊎ ((r : List ℕ) × (f.raw ≡ k4 ++ r) × (0 < length r) × (k2 ≡ r ++ print_end f.end))
      → 0 < length k2 → EndsSection most k (k2 ++ after)
  by_raw k k2 k4 is (inl (r, p, q)) long =
      in_end f.end refl k k2 r (is ∙ ap (λ (t : List ℕ). f.name ++ (58 ∷ t)) p) q long (k2 ++ after)
      (let n = length-append k2 after in omega arith)
  by_raw k k2 k4 is (inr (r, p, l, q)) long =
      in_raw k (k2 ++ after) k4 r is p (let n = length-append k2 after in omega arith)

  by_name : (k k2 : List ℕ) → ((n : List ℕ) × (k ≡ f.name ++ n) × (58 ∷ (f.raw ++ print_end f.end) ≡ n ++ k2))
      ⊎ ((n : List ℕ) × (f.name ≡ k ++ n) × (0 < length n) × (k2 ≡ n ++ (58 ∷ (f.raw ++ print_end f.end))))
      → 0 < length k2 → EndsSection most k (k2 ++ after)
  by_name k k2 (inr (n, p, l, q)) long =
      in_name k n p (k2 ++ after) (let a = length-append k2 after in let b =
      ap length q ∙ length-append n (58 ∷ (f.raw ++ print_end f.end)) in let c =
      length-append f.raw (print_end f.end) in let d = end_long f.end in omega arith)
  by_name k k2 (inl ([], p, q)) long =
      let is : f.name ≡ k ++ [] = sym (append-nil f.name) ∙ (sym p ∙ sym (append-nil k)) in
      in_name k [] is (k2 ++ after) (let a = length-append k2 after in let b = ap length q in let c =
      length-append f.raw (print_end f.end) in let d = end_long f.end in omega arith)
  by_name k k2 (inl (x ∷ k4, p, q)) long =
      let h : x ≡ 58 = cc in
      let t : k4 ++ k2 ≡ f.raw ++ print_end f.end = cc in
      by_raw k k2 k4 (p ∙ ap (λ (z : ℕ). f.name ++ (z ∷ k4)) h) (cut_at k4 k2 f.raw (print_end f.end) t) long

-- one more field line before
more_fields : (f : Field) (most : ℕ) (k k2 k' : List ℕ) → IsField f → k ≡ print_field f ++ k2 → EndsSection most k2 k'
    → EndsSection (suc most) k k'
more_fields f most k k2 k' good is r = record {
  fields = f ∷ r.fields;
  last = r.last;
  at = r.at;
  good = All-cons IsField f r.fields good r.good;
  few = (let n = r.few in omega arith);
  is = ap (λ (t : List ℕ). t ++ end_at r.at) is ∙
      (append_assoc (print_field f) k2 (end_at r.at) ∙
      (ap (λ (t : List ℕ). print_field f ++ t) r.is ∙ sym (section_assoc f r.fields r.last)));
  short = r.short;
  one = r.one;
}

-- a section that is cut off
pub section_cut : (fields : List Field) (last : LineEnd) (k k' : List ℕ) → All IsField fields
    → k ++ k' ≡ print_section fields last → 0 < length k' → EndsSection (length fields) k k'
section_cut [] lf [] k' good e long =
    record {
      fields = [];
      last = lf;
      at = 0;
      good = All-nil IsField;
      few = omega arith;
      is = refl;
      short = omega arith;
      one = omega arith;
    }
section_cut [] lf (x ∷ k) k' good e long = absurd (let n = sym (length-append (x ∷ k) k') ∙ ap length e in omega arith)
section_cut [] crlf [] k' good e long =
    record {
      fields = [];
      last = lf;
      at = 0;
      good = All-nil IsField;
      few = omega arith;
      is = refl;
      short = omega arith;
      one = omega arith;
    }
section_cut [] crlf (x ∷ []) k' good e long =
    let h : x ≡ 13 = cc in
    record {
      fields = [];
      last = crlf;
      at = 0;
      good = All-nil IsField;
      few = omega arith;
      is = ap (λ (z : ℕ). z ∷ 10 ∷ []) h;
      short = omega arith;
      one = omega arith;
    }
section_cut [] crlf (x ∷ y ∷ k) k' good e long =
    absurd (let n = sym (length-append (x ∷ y ∷ k) k') ∙ ap length e in omega arith)
section_cut (f ∷ fs) last k k' good e long =
    by_field (cut_at k k' (print_field f) (print_section fs last) (e ∙ section_assoc f fs last))
    (λ k2 t. section_cut fs last k2 k' (All-tail IsField f fs good) t long)
  where
    by_field : ((k2 : List ℕ) × (k ≡ print_field f ++ k2) × (print_section fs last ≡ k2 ++ k'))
        ⊎ ((k2 : List ℕ) × (print_field f ≡ k ++ k2) × (0 < length k2) × (k' ≡ k2 ++ print_section fs last))
        → ((k2 : List ℕ) → k2 ++ k' ≡ print_section fs last → EndsSection (length fs) k2 k')
        → EndsSection (suc (length fs)) k k'
    by_field (inl (k2, p, q)) rest = more_fields f (length fs) k k2 k' (All-head IsField f fs good) p (rest k2 (sym q))
    by_field (inr (k2, p, l, q)) rest =
        subst (λ (t : List ℕ). EndsSection (suc (length fs)) k t) (sym q)
        (by_name f (All-head IsField f fs good) (suc (length fs)) (omega arith) (print_section fs last)
        (section_long fs last) k k2 (cut_at k k2 f.name (58 ∷ (f.raw ++ print_end f.end)) (sym p ∙ field_parts f))
        l)

-- ---- the start line

-- a head that a short end makes
pub record EndsHead (text : List ℕ) : Type 0 where
  pub at : ℕ
  pub one : at < 14
  pub head : RequestHead
  pub is_head : IsHead (text ++ end_at at) head []

abbrev after_version : RequestHead → List ℕ
after_version h = print_end h.line_end ++ (print_section h.fields h.last ++ [])

abbrev after_target : RequestHead → List ℕ
after_target h = print_version h.minor ++ after_version h

abbrev after_method : RequestHead → List ℕ
after_method h = h.target ++ 32 ∷ after_target h

abbrev after_blank : RequestHead → List ℕ
after_blank h = h.method ++ 32 ∷ after_method h

version_long : (h : RequestHead) → 2 ≤ length (after_version h)
version_long h =
    (let a = length-append (print_end h.line_end) (print_section h.fields h.last ++ []) in let b =
    length-append (print_section h.fields h.last) [] in let c = end_long h.line_end in let d =
    section_long h.fields h.last in omega arith)

target_long : (h : RequestHead) → 10 ≤ length (after_target h)
target_long h =
    (let a = length-append (print_version h.minor) (after_version h) in let b = version_long h in omega arith)

method_long : (h : RequestHead) → IsRequestHead h → 12 ≤ length (after_method h)
method_long h good = (let a = length-append h.target (32 ∷ after_target h) in let b = target_long h in let c =
    good.target.0 in omega arith)

blank_long : (h : RequestHead) → IsRequestHead h → 14 ≤ length (after_blank h)
blank_long h good = (let a = length-append h.method (32 ∷ after_method h) in let b = method_long h good in let c =
    good.method.0 in omega arith)

module _ (text m : List ℕ) (small : length text + length m ≤ 16_384) where
  head_built : (at : ℕ) (head : RequestHead) → IsRequestHead head → length head.fields ≤ 32
      → text ++ end_at at ≡ print_blank head.blank ++ after_blank head → length (end_at at) ≤ length m → at < 14
      → EndsHead text
  head_built at head good few is short one =
      let e : text ++ end_at at ≡ print_request head ++ [] = is ∙ sym (print_request-append head []) in
      record {
        at = at;
        one = one;
        head = head;
        is_head = record {
          reads = (good, e);
          small = (let a = length-append text (end_at at) in let b = ap length e in let c =
              length-append (print_request head) [] in omega arith);
          few = few;
        };
      }

  token_a : IsToken (codes "A")
  token_a = (
    omega arith,
    All-cons (λ b. IsTrue (is_token_byte b)) 65 [] letter_is_token
        (All-nil (λ b. IsTrue (is_token_byte b))),
  )

  slash_bytes : (0 < length (codes "/")) × AllPass is_uri_byte (codes "/")
  slash_bytes = (omega arith, All-cons (λ b. IsTrue (is_uri_byte b)) 47 [] refl (All-nil (λ b. IsTrue (is_uri_byte b))))

  slash_text : IsUtf8 (codes "/")
  unfolding lib.Utf8.encode
  slash_text = (codes "/", (refl, refl))

  -- in its empty lines, or after them
  at_start : (es : List LineEnd) → text ≡ print_blank es → 14 ≤ length m → EndsHead text
  at_start es is long =
      head_built 12 (record {
        blank = es;
        method = codes "A";
        target = codes "/";
        minor = 1;
        line_end = lf;
        fields = [];
        last = lf;
      })
      (record {
        method = token_a;
        target = slash_bytes;
        target_text = slash_text;
        minor = omega arith;
        fields = All-nil IsField;
      }) (omega arith)
      (ap (λ (t : List ℕ). t ++ end_at 12) is) (omega arith) (omega arith)

  in_blank : (es : List LineEnd) → text ≡ print_blank es ++ 13 ∷ [] → 15 ≤ length m → EndsHead text
  in_blank es is long =
      head_built 13 (record {
        blank = es ++ crlf ∷ [];
        method = codes "A";
        target = codes "/";
        minor = 1;
        line_end = lf;
        fields = [];
        last = lf;
      })
      (record {
        method = token_a;
        target = slash_bytes;
        target_text = slash_text;
        minor = omega arith;
        fields = All-nil IsField;
      }) (omega arith)
      (ap (λ (t : List ℕ). t ++ end_at 13) is
      ∙ (append_assoc (print_blank es) (13 ∷ []) (end_at 13) ∙
      (sym (append_assoc (print_blank es) (13 ∷ 10 ∷ []) (end_at 12)) ∙ ap (λ (t : List ℕ). t ++ end_at 12)
      (flat_map_more print_end [] es crlf)))) (omega arith) (omega arith)

  -- in its method, or after it
  in_method : (h : RequestHead) (k n : List ℕ) → IsRequestHead h → h.method ≡ k ++ n → text ≡ print_blank h.blank ++ k
      → 0 < length k → 13 ≤ length m → EndsHead text
  in_method h k n good part is some long =
      head_built 11 (record {
        blank = h.blank;
        method = k;
        target = codes "/";
        minor = 1;
        line_end = lf;
        fields = [];
        last = lf;
      })
      (record {
        method = (some, prefix_pass is_token_byte k n h.method part good.method.1);
        target = slash_bytes;
        target_text = slash_text;
        minor = omega arith;
        fields = All-nil IsField;
      }) (omega arith)
      (ap (λ (t : List ℕ). t ++ end_at 11) is ∙ append_assoc (print_blank h.blank) k (end_at 11)) (omega arith)
      (omega arith)

  -- the text after the target
  behind_target : (h : RequestHead) (k end : List ℕ)
      → text ≡ print_blank h.blank ++ (h.method ++ 32 ∷ (h.target ++ 32 ∷ k))
      → text ++ end ≡ print_blank h.blank ++ (h.method ++ 32 ∷ (h.target ++ 32 ∷ (k ++ end)))
  behind_target h k end is = ap (λ (t : List ℕ). t ++ end) is ∙ simp (append_assoc, cons-append)

  in_version : (h : RequestHead) (k : List ℕ) (at : ℕ) → IsRequestHead h
      → text ≡ print_blank h.blank ++ (h.method ++ 32 ∷ (h.target ++ 32 ∷ k)) → k ++ end_at at ≡ codes "HTTP/1.1\n\n"
      → length (end_at at) ≤ length m → at < 14 → EndsHead text
  in_version h k at good is whole short one =
      head_built at (record {
        blank = h.blank;
        method = h.method;
        target = h.target;
        minor = 1;
        line_end = lf;
        fields = [];
        last = lf;
      })
      (record {
        method = good.method;
        target = good.target;
        target_text = good.target_text;
        minor = omega arith;
        fields = All-nil IsField;
      }) (omega arith)
      (behind_target h k (end_at at) is ∙ ap
      (λ (t : List ℕ). print_blank h.blank ++ (h.method ++ 32 ∷ (h.target ++ 32 ∷ t))) whole) short one

  behind_version : (h : RequestHead) (k end : List ℕ)
      → text ≡ print_blank h.blank ++ (h.method ++ 32 ∷ (h.target ++ 32 ∷ (print_version h.minor ++ k)))
      → text ++ end ≡ print_blank h.blank ++ (h.method ++ 32 ∷ (h.target ++ 32 ∷ (print_version h.minor ++ (k ++ end))))
  behind_version h k end is =
      behind_target h (print_version h.minor ++ k) end is
      ∙ ap (λ (t : List ℕ). print_blank h.blank ++ (h.method ++ 32 ∷ (h.target ++ 32 ∷ t)))
      (append_assoc (print_version h.minor) k end)

  at_line_end : (h : RequestHead) (k : List ℕ) (e : LineEnd) → IsRequestHead h
      → text ≡ print_blank h.blank ++ (h.method ++ 32 ∷ (h.target ++ 32 ∷ (print_version h.minor ++ k)))
      → k ++ end_at 1 ≡ print_end e ++ 10 ∷ [] → 2 ≤ length m → EndsHead text
  at_line_end h k e good is whole long =
      head_built 1 (record {
        blank = h.blank;
        method = h.method;
        target = h.target;
        minor = h.minor;
        line_end = e;
        fields = [];
        last = lf;
      })
      (record {
        method = good.method;
        target = good.target;
        target_text = good.target_text;
        minor = good.minor;
        fields = All-nil IsField;
      }) (omega arith)
      (behind_version h k (end_at 1) is ∙ ap
      (λ (t : List ℕ). print_blank h.blank ++ (h.method ++ 32 ∷ (h.target ++ 32 ∷ (print_version h.minor ++ t))))
      whole) (omega arith) (omega arith)

  in_line_end : (h : RequestHead) (e : LineEnd) (k n : List ℕ) → IsRequestHead h
      → text ≡ print_blank h.blank ++ (h.method ++ 32 ∷ (h.target ++ 32 ∷ (print_version h.minor ++ k)))
      → print_end e ≡ k ++ n → 0 < length n → 2 ≤ length m → EndsHead text
  in_line_end h lf [] n good is end some long = at_line_end h [] lf good is refl long
  in_line_end h lf (x ∷ k) n good is end some long =
      absurd (let a = ap length end ∙ length-append (x ∷ k) n in omega arith)
  in_line_end h crlf [] n good is end some long = at_line_end h [] lf good is refl long
  in_line_end h crlf (x ∷ []) n good is end some long =
      let b : x ≡ 13 = cc in at_line_end h (x ∷ []) crlf good is (ap (λ (z : ℕ). z ∷ 10 ∷ 10 ∷ []) b) long
  in_line_end h crlf (x ∷ y ∷ k) n good is end some long =
      absurd (let a = ap length end ∙ length-append (x ∷ y ∷ k) n in omega arith)

  in_section : (h : RequestHead) (k : List ℕ) → IsRequestHead h → length h.fields ≤ 32
      → text ≡ print_blank h.blank
      ++ (h.method ++ 32 ∷ (h.target ++ 32 ∷ (print_version h.minor ++ (print_end h.line_end ++ k))))
      → EndsSection (length h.fields) k m → EndsHead text
  in_section h k good few is r =
      head_built r.at (record {
        blank = h.blank;
        method = h.method;
        target = h.target;
        minor = h.minor;
        line_end = h.line_end;
        fields = r.fields;
        last = r.last;
      })
      (record {
        method = good.method;
        target = good.target;
        target_text = good.target_text;
        minor = good.minor;
        fields = r.good;
      }) (let n = r.few in omega arith)
      (behind_version h (print_end h.line_end ++ k) (end_at r.at) is
      ∙ ap (λ (t : List ℕ). print_blank h.blank ++ (h.method ++ 32 ∷ (h.target ++ 32 ∷ (print_version h.minor ++ t))))
      (append_assoc (print_end h.line_end) k (end_at r.at) ∙ ap (λ (t : List ℕ). print_end h.line_end ++ t)
      (r.is ∙ sym (append-nil (print_section r.fields r.last))))) r.short r.one

-- the version, cut off
version_end : (n d : ℕ) → n ≤ 7
    → (at : ℕ) × (at < 14) × (take n (codes "HTTP/1." ++ d ∷ []) ++ end_at at ≡ codes "HTTP/1.1\n\n")
    × (length (end_at at) + n ≡ 10)
version_end zero d l = (10, omega arith, refl, refl)
version_end (suc zero) d l = (9, omega arith, refl, refl)
version_end (suc (suc zero)) d l = (8, omega arith, refl, refl)
version_end (suc (suc (suc zero))) d l = (7, omega arith, refl, refl)
version_end (suc (suc (suc (suc zero)))) d l = (6, omega arith, refl, refl)
version_end (suc (suc (suc (suc (suc zero))))) d l = (5, omega arith, refl, refl)
version_end (suc (suc (suc (suc (suc (suc zero)))))) d l = (4, omega arith, refl, refl)
version_end (suc (suc (suc (suc (suc (suc (suc zero))))))) d l = (3, omega arith, refl, refl)
version_end (suc (suc (suc (suc (suc (suc (suc (suc n)))))))) d l = absurd (omega arith)

-- the empty lines, cut off
blank_cut : (es : List LineEnd) (k n : List ℕ) → k ++ n ≡ print_blank es
    → ((fs : List LineEnd) × (k ≡ print_blank fs)) ⊎ ((fs : List LineEnd) × (k ≡ print_blank fs ++ 13 ∷ []))
blank_cut es [] n e = inl ([], refl)
blank_cut [] (x ∷ k) n e = absurd (let a = sym (length-append (x ∷ k) n) ∙ ap length e in omega arith)
blank_cut (lf ∷ es) (x ∷ k) n e =
    let b : x ≡ 10 = cc in let t : k ++ n ≡ print_blank es = cc in next b (blank_cut es k n t)
  where
    next : x ≡ 10 → ((fs : List LineEnd) × (k ≡ print_blank fs))
        ⊎ ((fs : List LineEnd) × (k ≡ print_blank fs ++ 13 ∷ []))
        → ((fs : List LineEnd) × (x ∷ k ≡ print_blank fs)) ⊎ ((fs : List LineEnd) × (x ∷ k ≡ print_blank fs ++ 13 ∷ []))
    next b (inl (fs, p)) = inl (lf ∷ fs, ap (λ (z : ℕ). z ∷ k) b ∙ ap (λ (t : List ℕ). 10 ∷ t) p)
    next b (inr (fs, p)) = inr (lf ∷ fs, ap (λ (z : ℕ). z ∷ k) b ∙ ap (λ (t : List ℕ). 10 ∷ t) p)
blank_cut (crlf ∷ es) (x ∷ []) n e = let b : x ≡ 13 = cc in inr ([], ap (λ (z : ℕ). z ∷ []) b)
blank_cut (crlf ∷ es) (x ∷ y ∷ k) n e =
    let b : x ≡ 13 = cc in let c : y ≡ 10 = cc in let t : k ++ n ≡ print_blank es = cc in next b c (blank_cut es k n t)
  where
    next : x ≡ 13 → y ≡ 10 → ((fs : List LineEnd) × (k ≡ print_blank fs))
        ⊎ ((fs : List LineEnd) × (k ≡ print_blank fs ++ 13 ∷ []))
        → ((fs : List LineEnd) × (x ∷ y ∷ k ≡ print_blank fs))
        ⊎ ((fs : List LineEnd) × (x ∷ y ∷ k ≡ print_blank fs ++ 13 ∷ []))
    next b c (inl (fs, p)) = inl (
      crlf ∷ fs,
      ap (λ (z : ℕ). z ∷ y ∷ k) b ∙ (ap (λ (z : ℕ). 13 ∷ z ∷ k) c ∙ ap (λ (t : List ℕ). 13 ∷ 10 ∷ t) p),
    )
    next b c (inr (fs, p)) = inr (
      crlf ∷ fs,
      ap (λ (z : ℕ). z ∷ y ∷ k) b ∙ (ap (λ (z : ℕ). 13 ∷ z ∷ k) c ∙ ap (λ (t : List ℕ). 13 ∷ 10 ∷ t) p),
    )

-- ---- spaces: a text that ends inside its target has one

spaces-append : (a b : List ℕ) → spaces (a ++ b) ≡ spaces a + spaces b
spaces-append [] b = omega arith
spaces-append (x ∷ a) b = by_byte (x == 32) (spaces-append a b)
  where
    by_byte : (v : Bool) → spaces (a ++ b) ≡ spaces a + spaces b
        → (if v then spaces (a ++ b) + 1 else spaces (a ++ b)) ≡ (if v then spaces a + 1 else spaces a) + spaces b
    by_byte true e = omega (arith, e)
    by_byte false e = e

spaces_none : (test : ℕ → Bool) (other : test 32 ≡ false) (a : List ℕ) → AllByRecursion (λ b. IsTrue (test b)) a
    → spaces a ≡ 0
spaces_none test other [] all = refl
spaces_none test other (x ∷ a) all = by_byte (x == 32) refl (spaces_none test other a all.1)
  where
    by_byte : (v : Bool) → (x == 32) ≡ v → spaces a ≡ 0 → (if v then spaces a + 1 else spaces a) ≡ 0
    by_byte true is none = absurd (let e : x ≡ 32 = (Decides-eqb x 32).0 is in let f : test x ≡ false =
        ap test e ∙ other in let t : true ≡ false = sym all.0 ∙ f in cc)
    by_byte false is none = none

spaces_blank : (es : List LineEnd) → spaces (print_blank es) ≡ 0
spaces_blank [] = refl
spaces_blank (lf ∷ es) = spaces_blank es
spaces_blank (crlf ∷ es) = spaces_blank es

space_no_token : is_token_byte 32 ≡ false
unfolding is_token_byte
space_no_token = refl

one_space : (h : RequestHead) (text k n : List ℕ) → IsRequestHead h → text ≡ print_blank h.blank ++ (h.method ++ 32 ∷ k)
    → h.target ≡ k ++ n → spaces text ≡ 1
one_space h text k n good is part =
    let a = spaces-append (print_blank h.blank) (h.method ++ 32 ∷ k) in
    let b = spaces-append h.method (32 ∷ k) in
    let c = spaces_blank h.blank in
    let d = spaces_none is_token_byte space_no_token h.method
    (recursion_from_All (λ x. IsTrue (is_token_byte x)) h.method good.method.1) in
    let e = spaces_none is_uri_byte refl k
    (recursion_from_All (λ x. IsTrue (is_uri_byte x)) k (prefix_pass is_uri_byte k n h.target part good.target.1))
    in
    ap spaces is ∙ omega (arith, a, b, c, d, e)

-- ---- any head

module _ (h : RequestHead) (text m : List ℕ) (good : IsRequestHead h) (few : length h.fields ≤ 32)
    (small : length text + length m ≤ 16_384) (outside : spaces text ≡ 1 → ⊥) where
  by_line_end : (k : List ℕ) → text
      ≡ print_blank h.blank ++ (h.method ++ 32 ∷ (h.target ++ 32 ∷ (print_version h.minor ++ k)))
      → ((n : List ℕ) × (k ≡ print_end h.line_end ++ n) × (print_section h.fields h.last ++ [] ≡ n ++ m))
      ⊎ ((n : List ℕ) × (print_end h.line_end ≡ k ++ n) × (0 < length n)
      × (m ≡ n ++ (print_section h.fields h.last ++ [])))
      → 0 < length m → EndsHead text
  by_line_end k is (inl (n, p, q)) long =
      in_section text m small h n good few
      (is ∙ ap (λ (t : List ℕ).
      print_blank h.blank ++ (h.method ++ 32 ∷ (h.target ++ 32 ∷ (print_version h.minor ++ t)))) p)
      (section_cut h.fields h.last n m good.fields (sym q ∙ append-nil (print_section h.fields h.last)) long)
  by_line_end k is (inr (n, p, l, q)) long =
      in_line_end text m small h h.line_end k n good is p l
      (let a = ap length q ∙ length-append n (print_section h.fields h.last ++ []) in let b =
      length-append (print_section h.fields h.last) [] in let c = section_long h.fields h.last in omega arith)

  by_version : (k : List ℕ) → text ≡ print_blank h.blank ++ (h.method ++ 32 ∷ (h.target ++ 32 ∷ k))
      → ((n : List ℕ) × (k ≡ print_version h.minor ++ n) × (after_version h ≡ n ++ m))
      ⊎ ((n : List ℕ) × (print_version h.minor ≡ k ++ n) × (0 < length n) × (m ≡ n ++ after_version h))
      → 0 < length m → EndsHead text
  by_version k is (inl (n, p, q)) long =
      by_line_end n (is ∙ ap (λ (t : List ℕ). print_blank h.blank ++ (h.method ++ 32 ∷ (h.target ++ 32 ∷ t))) p)
      (cut_at n m (print_end h.line_end) (print_section h.fields h.last ++ []) (sym q)) long
  by_version k is (inr (n, p, l, q)) long =
      let size : 8 ≡ length k + length n = ap length p ∙ length-append k n in
      let r = version_end (length k) (48 + h.minor) (omega arith) in
      let part : k ≡ take (length k) (print_version h.minor) =
      sym (ap (take (length k)) p ∙ take_at k n (length k) refl) in
      in_version text m small h k r.0 good is (ap (λ (t : List ℕ). t ++ end_at r.0) part ∙ r.2)
      (let a = ap length q ∙ length-append n (after_version h) in let b = version_long h in let c = r.3 in omega arith)
      r.1

  by_target : (k : List ℕ) → text ≡ print_blank h.blank ++ (h.method ++ 32 ∷ k)
      → ((n : List ℕ) × (k ≡ h.target ++ n) × (32 ∷ after_target h ≡ n ++ m))
      ⊎ ((n : List ℕ) × (h.target ≡ k ++ n) × (0 < length n) × (m ≡ n ++ 32 ∷ after_target h))
      → 0 < length m → EndsHead text
  by_target k is (inr (n, p, l, q)) long = absurd (outside (one_space h text k n good is p))
  by_target k is (inl ([], p, q)) long =
      absurd (outside (one_space h text k [] good is (sym (append-nil h.target) ∙ (sym p ∙ sym (append-nil k)))))
  by_target k is (inl (x ∷ n, p, q)) long =
      let b : x ≡ 32 = cc in
      let t : n ++ m ≡ print_version h.minor ++ after_version h = cc in
      by_version n (is ∙ (ap (λ (s : List ℕ). print_blank h.blank ++ (h.method ++ 32 ∷ s)) p ∙ ap
      (λ (z : ℕ). print_blank h.blank ++ (h.method ++ 32 ∷ (h.target ++ z ∷ n))) b))
      (cut_at n m (print_version h.minor) (after_version h) t) long

  by_method : (k : List ℕ) → text ≡ print_blank h.blank ++ k
      → ((n : List ℕ) × (k ≡ h.method ++ n) × (32 ∷ after_method h ≡ n ++ m))
      ⊎ ((n : List ℕ) × (h.method ≡ k ++ n) × (0 < length n) × (m ≡ n ++ 32 ∷ after_method h))
      → 0 < length m → EndsHead text
  by_method [] is (inr (n, p, l, q)) long =
      at_start text m small h.blank (is ∙ append-nil (print_blank h.blank))
      (let a = ap length q ∙ length-append n (32 ∷ after_method h) in let b = method_long h good in omega arith)
  by_method (x ∷ k) is (inr (n, p, l, q)) long =
      in_method text m small h (x ∷ k) n good p is (omega arith)
      (let a = ap length q ∙ length-append n (32 ∷ after_method h) in let b = method_long h good in omega arith)
  by_method k is (inl ([], p, q)) long =
      in_method text m small h h.method [] good (sym (append-nil h.method))
      (is ∙ ap (λ (t : List ℕ). print_blank h.blank ++ t) (p ∙ append-nil h.method)) good.method.0
      (let a = ap length q in let b = method_long h good in omega arith)
  by_method k is (inl (x ∷ n, p, q)) long =
      let b : x ≡ 32 = cc in
      let t : n ++ m ≡ h.target ++ 32 ∷ after_target h = cc in
      by_target n (is ∙ (ap (λ (s : List ℕ). print_blank h.blank ++ s) p ∙ ap
      (λ (z : ℕ). print_blank h.blank ++ (h.method ++ z ∷ n)) b)) (cut_at n m h.target (32 ∷ after_target h) t) long

  by_blank : ((n : List ℕ) × (text ≡ print_blank h.blank ++ n) × (after_blank h ≡ n ++ m))
      ⊎ ((n : List ℕ) × (print_blank h.blank ≡ text ++ n) × (0 < length n) × (m ≡ n ++ after_blank h)) → 0 < length m
      → EndsHead text
  by_blank (inl (n, p, q)) long = by_method n p (cut_at n m h.method (32 ∷ after_method h) (sym q)) long
  by_blank (inr (n, p, l, q)) long = which (blank_cut h.blank text n (sym p))
    where
      enough : 15 ≤ length m
      enough = (let a = ap length q ∙ length-append n (after_blank h) in let b = blank_long h good in omega arith)

      which : ((fs : List LineEnd) × (text ≡ print_blank fs))
          ⊎ ((fs : List LineEnd) × (text ≡ print_blank fs ++ 13 ∷ [])) → EndsHead text
      which (inl (fs, is)) = at_start text m small fs is (let e = enough in omega arith)
      which (inr (fs, is)) = in_blank text m small fs is enough

-- whatever continuation makes a text a head within the limits, a short end does
pub ends_short : (text more : List ℕ) (head : RequestHead) (rest : List ℕ) → HasNoRequest text → (spaces text ≡ 1 → ⊥)
    → IsHead (text ++ more) head rest → EndsHead text
ends_short text more head rest none outside is = by_cut (cut_at text more (print_request head) rest is.reads.1)
  where
    by_cut : ((k : List ℕ) × (text ≡ print_request head ++ k) × (rest ≡ k ++ more))
        ⊎ ((k : List ℕ) × (print_request head ≡ text ++ k) × (0 < length k) × (more ≡ k ++ rest)) → EndsHead text
    by_cut (inl (k, p, q)) = absurd (none head k (is.reads.0, p))
    by_cut (inr (k, p, l, q)) =
        let whole : text ++ k ≡ print_blank head.blank ++ after_blank head =
        sym p ∙ (sym (append-nil (print_request head)) ∙ print_request-append head []) in
        by_blank head text k is.reads.0 is.few
        (let a = ap length p ∙ length-append text k in let b = is.small in omega arith) outside
        (cut_at text k (print_blank head.blank) (after_blank head) whole) l

-- where no short end makes a head, nothing does
pub never_short : (text : List ℕ) → HasNoRequest text → (spaces text ≡ 1 → ⊥)
    → ((j : ℕ) → j < 14 → (head : RequestHead) (rest : List ℕ) → ¬ (IsHead (text ++ end_at j) head rest))
    → NeverHead text
never_short text none outside others more head rest is =
    (let e = ends_short text more head rest none outside is in others e.at e.one e.head [] e.is_head)

-- ---- loops

one_at_most : (x : ℕ) → spaces (x ∷ []) ≤ 1
one_at_most x = by_byte (x == 32)
  where
    by_byte : (v : Bool) → (if v then 0 + 1 else 0) ≤ 1
    by_byte true = omega arith
    by_byte false = omega arith

pub spaces_more : (xs : List ℕ) (i n v : ℕ) → i < length xs → n ≡ spaces (take i xs) → v ≡ spaces (get_or xs i 0 ∷ [])
    → n + v ≡ spaces (take (i + 1) xs)
spaces_more xs i n v l counted one =
    let more : spaces (take (i + 1) xs) ≡ spaces (take i xs) + spaces (get_or xs i 0 ∷ []) =
    ap spaces (take_more xs i 0 l) ∙ spaces-append (take i xs) (get_or xs i 0 ∷ []) in
    omega (arith, more, counted, one)

pub bound_more : (n v i x : ℕ) → n ≤ i → v ≡ spaces (x ∷ []) → n + v ≤ i + 1
bound_more n v i x l one = (let o = one_at_most x in omega (arith, o, l, one))

get_or-map : {A B : Type 0} (f : A → B) (xs : List A) (i : ℕ) (d : A) → get_or (map f xs) i (f d) ≡ f (get_or xs i d)
get_or-map f [] i d = refl
get_or-map f (x ∷ xs) zero d = refl
get_or-map f (x ∷ xs) (suc i) d = get_or-map f xs i d

pub more_ends : (text held : List ℕ) (es : List (Bor (List ℕ))) (i : ℕ) → i < length es → held ≡ text
    → HasNoEnd text (map (λ e. e.now) es) i
    → ((head : RequestHead) (rest : List ℕ)
    → ¬ (IsHead (held ++ (get_or es i (record { ref_ptr = (0, 0); now = [] })).now) head rest))
    → HasNoEnd text (map (λ e. e.now) es) (i + 1)
more_ends text held es i inside same none here j l head rest is = by_place (le_or (omega arith))
  where
    le_or : j ≤ i → (j < i) ⊎ (j ≡ i)
    le_or k = grind arith

    by_place : (j < i) ⊎ (j ≡ i) → ⊥
    by_place (inl k) = none j k head rest is
    by_place (inr k) =
        let at : get_or (map (λ (e : Bor (List ℕ)). e.now) es) j []
        ≡ (get_or es i (record { ref_ptr = (0, 0); now = [] })).now =
        ap (λ (n : ℕ). get_or (map (λ (e : Bor (List ℕ)). e.now) es) n []) k ∙ get_or-map (λ (e : Bor (List ℕ)). e.now)
        es i (record { ref_ptr = (0, 0); now = [] }) in
        here head rest (subst (λ (t : List ℕ). IsHead t head rest)
        (ap (λ (t : List ℕ). t ++ get_or (map (λ (e : Bor (List ℕ)). e.now) es) j []) (sym same) ∙ ap
        (λ (t : List ℕ). held ++ t) at) is)

-- a text with one space is not empty
pub inside_target : (text : List ℕ) → (text ≡ []) ⊎ MayBecomeRequest text → spaces text ≡ 1
    → (spaces text ≡ 1) × MayBecomeRequest text
inside_target text (inl none) one = absurd (let e : 0 ≡ 1 = sym (ap spaces none) ∙ one in omega arith)
inside_target text (inr may) one = (one, may)
