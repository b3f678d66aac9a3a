-- The required requests mean the same beside what is added.
use Rattle.std.proofs.Common.{◌≡◌, ◌⊎◌, ℕ, Bool, true, false, not, ◌||◌, ◌&&◌, List, [], ◌∷◌, Option, Some, None}
use Rattle.std.proofs.Common.{is_some, option_map, option_and_then, cond, refl, sym, ap, subst, ◌∙◌, if◌then◌else◌}
use Rattle.std.proofs.Common.{inl, inr}
use Rattle.std.specs.Prelude.{codes, Result, Ok, Err, ⊤, map}
use Rattle.std.specs.List.{find, list_any, list_all}
use Rattle.std.specs.Option.{option_map_or}
use Rattle.std.proofs.Common.{Ordering, Less, Equal, Greater}
use Rattle.std.specs.Ordering.{nat_cmp, match_ordering, is_eq}
use Rattle.std.specs.Cmp.Lexicographic.{slice_cmp}
use Rattle.std.specs.Result.{IfOk, IfErr}
use Rattle.std.specs.Str.{bytes_eq, is_utf8}
use Rattle.std.proofs.lemmas.Bool.{and_from, and_parts, or_from, or_parts, or_left, or_right}
use Rattle.std.proofs.lemmas.Bool.{true≢false}
use Rattle.std.proofs.lemmas.Map.Text.{is_eq-slice_cmp}
use Rattle.serde_json.specs.Data.{Data, null, boolean, number, string, array, object, Members, no_members, member}
use Rattle.serde_json.specs.Find.{get, get_member, as_str}
use Rattle.serde_json.specs.Read.{read}
use Rattle.money_core.specs.declared.cause.Cause.{Cause}
use Rattle.money_core.specs.declared.cause.Cause.TheVariants as cause
use Rattle.money_core.proofs.BytesLemmas.{bytes_eq-refl, same_bytes}
use Rattle.treasury_requests.specs.declared.words.Word.{Word}
use Rattle.treasury_requests.specs.declared.words.Word.TheVariants as word
use Rattle.treasury_requests.specs.declared.words.Key.{Key}
use Rattle.treasury_requests.specs.declared.words.Key.TheVariants as key
use Rattle.treasury_requests.specs.declared.request.Terms.{Terms}
use Rattle.treasury_requests.specs.declared.request.Spelled.{Spelled}
use Rattle.treasury_requests.specs.declared.request.Request.{Request}
use Rattle.treasury_requests.specs.declared.request.Request.TheVariants.{Register}
use Rattle.treasury_requests.specs.Words.{key_name, word_name, all_words, is_word_named}
use Rattle.treasury_requests.specs.Keys.{text_at, given_in, is_odd, keys_of, is_key_named, may_have, is_other_key}
use Rattle.treasury_requests.specs.Keys.{names_in, member_names, has_form}
use Rattle.treasury_requests.specs.Request.{request_by, terms_by, spelled_by, in_earnest, request_of, spelled}
use Rattle.treasury_requests.specs.Required.{RequiredForm, required_forms, has_only, form_named, required_of, required}
use Rattle.treasury_requests.specs.Required.{added_words, added_keys, has_added_key, has_addition, adds, KeepsRequired}

-- ---- a key among names
-- the name is among them
abbrev Among : List ℕ → List (List ℕ) → Type 0
Among name names = list_any (bytes_eq name) names ≡ true

in_cons : (P : Type 0) (n m : List ℕ) (ms : List (List ℕ)) → Among n (m ∷ ms) → (n ≡ m → P) → (Among n ms → P) → P
in_cons P n m ms h first rest = by_test (bytes_eq n m) refl h
  where
    by_test : (t : Bool) → bytes_eq n m ≡ t → (t || list_any (bytes_eq n) ms) ≡ true → P
    by_test true e h = first (same_bytes n m e)
    by_test false e h = rest h

here : (m : List ℕ) (ms : List (List ℕ)) → Among m (m ∷ ms)
here m ms = or_left (bytes_eq m m) (list_any (bytes_eq m) ms) (bytes_eq-refl m)

at_name : (p : List ℕ → Bool) (names : List (List ℕ)) → list_all p names ≡ true → (n : List ℕ) → Among n names
    → p n ≡ true
at_name p [] all n h = absurd (true≢false (sym h))
at_name p (m ∷ ms) all n h =
    let parts = and_parts (p m) (list_all p ms) all in
    in_cons (p n ≡ true) n m ms h (λ e. ap p e ∙ parts.0) (at_name p ms parts.1 n)

all_names : (p : List ℕ → Bool) (names : List (List ℕ)) → ((n : List ℕ) → Among n names → p n ≡ true)
    → list_all p names ≡ true
all_names p [] h = refl
all_names p (m ∷ ms) h =
    and_from (p m) (list_all p ms) (h m (here m ms))
    (all_names p ms (λ n among. h n (or_right (bytes_eq n m) (list_any (bytes_eq n) ms) among)))

none_any : (p : List ℕ → Bool) (names : List (List ℕ)) → list_any p names ≡ false → (n : List ℕ) → Among n names
    → p n ≡ false
none_any p [] none n h = absurd (true≢false (sym h))
none_any p (m ∷ ms) none n h =
    let parts = or_parts (p m) (list_any p ms) none in
    in_cons (p n ≡ false) n m ms h (λ e. ap p e ∙ parts.0) (none_any p ms parts.1 n)

any_none : (p : List ℕ → Bool) (names : List (List ℕ)) → ((n : List ℕ) → Among n names → p n ≡ false)
    → list_any p names ≡ false
any_none p [] h = refl
any_none p (m ∷ ms) h =
    or_from (p m) (list_any p ms) (h m (here m ms))
    (any_none p ms (λ n among. h n (or_right (bytes_eq n m) (list_any (bytes_eq n) ms) among)))

finds : {X : Type 0} (p : X → Bool) (xs : List X) → is_some (find p xs) ≡ list_any p xs
finds p [] = refl
finds p (x ∷ xs) = by_test (p x) (finds p xs)
  where
    by_test : (t : Bool) → is_some (find p xs) ≡ list_any p xs
        → is_some (cond t (Some x) (find p xs)) ≡ (t || list_any p xs)
    by_test true e = refl
    by_test false e = e

-- ---- what an object has at its keys
-- a value stands at a key if and only if the key is one of the object's names
names_members : (k : List ℕ) (ms : Members) → list_any (bytes_eq k) (names_in ms) ≡ is_some (get_member k ms)
names_members k no_members = refl
names_members k (member l e ms) = by_order (slice_cmp nat_cmp k l) (sym (is_eq-slice_cmp k l)) (names_members k ms)
  where
    by_order : (o : Ordering) → bytes_eq k l ≡ is_eq o
        → list_any (bytes_eq k) (names_in ms) ≡ is_some (get_member k ms)
        → (bytes_eq k l || list_any (bytes_eq k) (names_in ms))
        ≡ is_some (match_ordering o (get_member k ms) (Some e) (get_member k ms))
    by_order Less same h = rw same h
    by_order Equal same h = rw same refl
    by_order Greater same h = rw same h

names_values : (k : List ℕ) (d : Data) → list_any (bytes_eq k) (member_names d) ≡ is_some (get k d)
names_values k null = refl
names_values k (boolean b) = refl
names_values k (number n) = refl
names_values k (string s) = refl
names_values k (array ds) = refl
names_values k (object ms) = names_members k ms

-- ---- one form beside its word
-- the name is allowed, or added to those of a word
abbrev is_covered : List ℕ → List (List ℕ) → List ℕ → Bool
is_covered t keys n = list_any (bytes_eq n) keys || list_any (bytes_eq n) (added_keys t)

-- what is allowed is what the word may have, it is nothing that is added, and all else that it may have is added
record Fits (w : Word) (keys : List (List ℕ)) : Type 0 where
  allows : list_all (may_have w) (codes "do" ∷ keys) ≡ true
  no_dry_run : list_any (bytes_eq (codes "dry-run")) (codes "do" ∷ keys) ≡ false
  no_if_entries : list_any (bytes_eq (codes "if-entries")) (codes "do" ∷ keys) ≡ false
  covers : list_all (is_covered (word_name w) keys) (map key_name (keys_of w)) ≡ true

-- each name is allowed and has a text
abbrev HasOnly : List (List ℕ) → Data → Type 0
HasOnly keys d = (n : List ℕ) → Among n (member_names d) → Among n (codes "do" ∷ keys) × (is_some (text_at n d) ≡ true)

only_each : (keys : List (List ℕ)) (d : Data) → has_only keys d ≡ true → HasOnly keys d
only_each keys d h n among =
    and_parts (list_any (bytes_eq n) (codes "do" ∷ keys)) (is_some (text_at n d))
    (at_name (λ name. list_any (bytes_eq name) (codes "do" ∷ keys) && is_some (text_at name d)) (member_names d) h n
    among)

only_from : (keys : List (List ℕ)) (d : Data) → HasOnly keys d → has_only keys d ≡ true
only_from keys d h =
    all_names (λ name. list_any (bytes_eq name) (codes "do" ∷ keys) && is_some (text_at name d)) (member_names d)
    (λ n among. and_from (list_any (bytes_eq n) (codes "do" ∷ keys)) (is_some (text_at n d)) (h n among).0
    (h n among).1)

-- a key that is not allowed has no text
no_text : (keys : List (List ℕ)) (d : Data) (n : List ℕ) → HasOnly keys d
    → list_any (bytes_eq n) (codes "do" ∷ keys) ≡ false → text_at n d ≡ None
no_text keys d n h e = by_value (get n d) refl
  where
    by_value : (o : Option Data) → get n d ≡ o → option_and_then as_str o ≡ None
    by_value None f = refl
    by_value (Some v) f =
        let among : Among n (member_names d) = names_values n d ∙ ap is_some f in
        absurd (true≢false (sym (h n among).0 ∙ e))

-- a key whose value has a text, if there is one, is not odd
not_odd : (d : Data) (k : Key) → (is_some (get (key_name k) d) ≡ true → is_some (text_at (key_name k) d) ≡ true)
    → is_odd d k ≡ false
not_odd d k h = by_value (get (key_name k) d) h
  where
    by_value : (o : Option Data) → (is_some o ≡ true → is_some (option_and_then as_str o) ≡ true)
        → (is_some o && not (is_some (option_and_then as_str o))) ≡ false
    by_value None h = refl
    by_value (Some v) h = ap not (h refl)

none_odd : (d : Data) (ks : List Key)
    → ((k : Key) → is_some (get (key_name k) d) ≡ true → is_some (text_at (key_name k) d) ≡ true)
    → list_any (is_odd d) ks ≡ false
none_odd d [] h = refl
none_odd d (k ∷ ks) h = rw (not_odd d k (h k)) (none_odd d ks h)

form_holds : (w : Word) (keys : List (List ℕ)) (d : Data) → Fits w keys → HasOnly keys d → has_form w d ≡ true
form_holds w keys d fits h =
    let others : is_some (find (is_other_key w) (member_names d)) ≡ false =
    finds (is_other_key w) (member_names d) ∙ any_none (is_other_key w) (member_names d) (λ n among.
    ap not (at_name (may_have w) (codes "do" ∷ keys) fits.allows n (h n among).0)) in
    let odd : list_any (is_odd d) (keys_of w) ≡ false =
    none_odd d (keys_of w) (λ k has. (h (key_name k) (names_values (key_name k) d ∙ has)).1) in
    rw others (rw odd refl)

abbrev default : Terms
default = record { is_dry_run = false; if_entries = None }

in_terms : (g : Key → Option (List ℕ)) → g key.DryRun ≡ None → g key.IfEntries ≡ None → terms_by g ≡ Some default
in_terms g e f = rw e (rw f refl)

-- what the form's request is, the word's is
kept : (w : Word) (keys : List (List ℕ)) (d : Data) (r : Request) → Fits w keys → HasOnly keys d
    → request_by w (given_in d) ≡ Some r
    → (if has_form w d then spelled_by w (given_in d) else None) ≡ Some (in_earnest r)
kept w keys d r fits h e =
    let terms : terms_by (given_in d) ≡ Some default =
    in_terms (given_in d) (no_text keys d (codes "dry-run") h fits.no_dry_run)
    (no_text keys d (codes "if-entries") h fits.no_if_entries) in
    rw (form_holds w keys d fits h) (rw terms (rw e refl))

in_keys : (P : Type 0) (n : List ℕ) (k : Key) (ks : List Key) → list_any (is_key_named n) (k ∷ ks) ≡ true
    → (key_name k ≡ n → P) → (list_any (is_key_named n) ks ≡ true → P) → P
in_keys P n k ks h first rest = by_test (bytes_eq (key_name k) n) refl h
  where
    by_test : (t : Bool) → bytes_eq (key_name k) n ≡ t → (t || list_any (is_key_named n) ks) ≡ true → P
    by_test true e h = first (same_bytes (key_name k) n e)
    by_test false e h = rest h

-- a name of the word's that is not added is allowed
allowed : (t : List ℕ) (ks : List Key) (keys : List (List ℕ)) (n : List ℕ)
    → list_all (is_covered t keys) (map key_name ks) ≡ true
    → list_any (is_key_named n) ks ≡ true → list_any (bytes_eq n) (added_keys t) ≡ false → Among n keys
allowed t [] keys n all h none = absurd (true≢false (sym h))
allowed t (k ∷ ks) keys n all h none =
    let parts = and_parts (is_covered t keys (key_name k)) (list_all (is_covered t keys) (map key_name ks)) all in
    in_keys (Among n keys) n k ks h
    (λ e. left (list_any (bytes_eq n) keys) (list_any (bytes_eq n) (added_keys t))
    (subst (λ m. is_covered t keys m ≡ true) e parts.0) none) (λ h. allowed t ks keys n parts.1 h none)
  where
    left : (s t : Bool) → (s || t) ≡ true → t ≡ false → s ≡ true
    left true t e f = refl
    left false t e f = absurd (true≢false (sym e ∙ f))

-- and it has a text
has_text : (ks : List Key) (d : Data) (n : List ℕ) → list_any (is_odd d) ks ≡ false
    → list_any (is_key_named n) ks ≡ true → is_some (get n d) ≡ true → is_some (text_at n d) ≡ true
has_text [] d n odd h has = absurd (true≢false (sym h))
has_text (k ∷ ks) d n odd h has =
    let parts = or_parts (is_odd d k) (list_any (is_odd d) ks) odd in
    in_keys (is_some (text_at n d) ≡ true) n k ks h
    (λ e. even (is_some (get n d)) (is_some (text_at n d))
    (subst (λ m. (is_some (get m d) && not (is_some (text_at m d))) ≡ false) e parts.0) has)
    (λ h. has_text ks d n parts.1 h has)
  where
    even : (s t : Bool) → (s && not t) ≡ false → s ≡ true → t ≡ true
    even true true e f = refl
    even true false e f = absurd (true≢false e)
    even false t e f = absurd (true≢false (sym f))

-- no key of the object is added to those of a word
abbrev NoKeyAdded : List ℕ → Data → Type 0
NoKeyAdded t d = (n : List ℕ) → Among n (member_names d) → list_any (bytes_eq n) (added_keys t) ≡ false

only_holds : (w : Word) (keys : List (List ℕ)) (d : Data) (t : List ℕ) → Fits w keys → has_form w d ≡ true
    → text_at (codes "do") d ≡ Some t → NoKeyAdded (word_name w) d → HasOnly keys d
only_holds w keys d t fits holds said none n among = by_do (bytes_eq (codes "do") n) refl mine
  where
    flip : (s : Bool) → not s ≡ true → s ≡ false
    flip true e = absurd (true≢false (sym e))
    flip false e = refl

    unflip : (s : Bool) → not s ≡ false → s ≡ true
    unflip true e = refl
    unflip false e = absurd (true≢false e)

    halves : (not (is_some (find (is_other_key w) (member_names d))) ≡ true)
        × (not (list_any (is_odd d) (keys_of w)) ≡ true)
    halves = and_parts _ _ holds

    mine : may_have w n ≡ true
    mine =
        unflip (may_have w n) (none_any (is_other_key w) (member_names d)
        (sym (finds (is_other_key w) (member_names d)) ∙ flip _ halves.0) n among)

    by_do : (s : Bool) → bytes_eq (codes "do") n ≡ s → (s || list_any (is_key_named n) (keys_of w)) ≡ true
        → Among n (codes "do" ∷ keys) × (is_some (text_at n d) ≡ true)
    by_do true e h =
        let same : codes "do" ≡ n = same_bytes (codes "do") n e in
        let it : Among (codes "do") (codes "do" ∷ keys) × (is_some (text_at (codes "do") d) ≡ true) =
        (refl, ap is_some said) in
        subst (λ m. Among m (codes "do" ∷ keys) × (is_some (text_at m d) ≡ true)) same it
    by_do false e h = (
      or_right (bytes_eq n (codes "do")) (list_any (bytes_eq n) keys)
          (allowed (word_name w) (keys_of w) keys n fits.covers h (none n among)),
      has_text (keys_of w) d n (flip _ halves.1) h (sym (names_values n d) ∙ among),
    )

none_spelled : (w : Word) (g : Key → Option (List ℕ)) → request_by w g ≡ None → spelled_by w g ≡ None
none_spelled w g e = by_terms (terms_by g)
  where
    made : Terms → Request → Spelled
    made terms request = record { request = request; terms = terms }

    by_terms : (t : Option Terms) → option_and_then (λ terms. option_map (made terms) (request_by w g)) t ≡ None
    by_terms None = refl
    by_terms (Some terms) = ap (option_map (made terms)) e

-- ---- all forms beside all words
-- the request of a form, and what the object of a word spells
abbrev requested : Data → Option RequiredForm → Option Request
requested d f = option_and_then (λ form. if has_only form.keys d then form.request else None) f

abbrev asked : Data → Option Word → Option Spelled
asked d o = option_and_then (λ w. if has_form w d then spelled_by w (given_in d) else None) o

-- the two agree, if no key is added to those of the word that the text is, and no word is
record Agree (t : List ℕ) (d : Data) (is_added : Bool) (o : Option Word) (f : Option RequiredForm) : Type 0 where
  same : (r : Request) → requested d f ≡ Some r → asked d o ≡ Some (in_earnest r)
  none : NoKeyAdded t d → is_added ≡ false → requested d f ≡ None → asked d o ≡ None

-- a form is that of a word
record IsForm (d : Data) (w : Word) (f : RequiredForm) : Type 0 where
  name : f.word ≡ word_name w
  fits : Fits w f.keys
  request : HasOnly f.keys d → f.request ≡ request_by w (given_in d)

form_agrees : (d : Data) (t : List ℕ) (is_added : Bool) (w : Word) (f : RequiredForm)
    → text_at (codes "do") d ≡ Some t → IsForm d w f → Agree (word_name w) d is_added (Some w) (Some f)
form_agrees d t is_added w f said is = record {
  same = λ r e. by_only r (has_only f.keys d) refl e;
  none = λ lacks _ e. by_form lacks e (has_form w d) refl;
}
  where
    by_only : (r : Request) (s : Bool) → has_only f.keys d ≡ s → (if s then f.request else None) ≡ Some r
        → asked d (Some w) ≡ Some (in_earnest r)
    by_only r true h e =
        (let only = only_each f.keys d h in kept w f.keys d r is.fits only (sym (is.request only) ∙ e))
    by_only r false h e = absurd cc

    by_form : NoKeyAdded (word_name w) d → requested d (Some f) ≡ None → (s : Bool) → has_form w d ≡ s
        → (if s then spelled_by w (given_in d) else None) ≡ None
    by_form lacks e true h =
        let each : HasOnly f.keys d = only_holds w f.keys d t is.fits h said lacks in
        let only : has_only f.keys d ≡ true = only_from f.keys d each in
        let empty : f.request ≡ None = ap (λ (s : Bool). let held : Option Request = (if s then f.request else None) in
        held) (sym only) ∙ e in
        none_spelled w (given_in d) (sym (is.request each) ∙ empty)
    by_form lacks e false h = refl

-- the forms are those of the first words, and the others are added
abbrev AreForms : Data → List Word → List RequiredForm → Type 0
AreForms d [] [] = ⊤
AreForms d [] (f ∷ fs) = ⊥
AreForms d (w ∷ ws) [] = Among (word_name w) added_words × AreForms d ws []
AreForms d (w ∷ ws) (f ∷ fs) = IsForm d w f × AreForms d ws fs

abbrev is_added : List ℕ → Bool
is_added t = list_any (bytes_eq t) added_words

found_agree : (d : Data) (t : List ℕ) → text_at (codes "do") d ≡ Some t → (ws : List Word) (fs : List RequiredForm)
    → AreForms d ws fs
    → Agree t d (is_added t) (find (is_word_named t) ws) (find (λ (f : RequiredForm). bytes_eq f.word t) fs)
found_agree d t said [] [] are = record { same = λ r e. absurd cc; none = λ _ _ _. refl }
found_agree d t said [] (f ∷ fs) are = absurd are
found_agree d t said (w ∷ ws) [] are = by_test (bytes_eq (word_name w) t) refl (found_agree d t said ws [] are.1)
  where
    by_test : (s : Bool) → bytes_eq (word_name w) t ≡ s → Agree t d (is_added t) (find (is_word_named t) ws) None
        → Agree t d (is_added t) (cond s (Some w) (find (is_word_named t) ws)) None
    by_test true e rest = record {
      same = λ r f. absurd cc;
      none = λ _ no _. absurd (true≢false (sym (subst (λ n. Among n added_words) (same_bytes (word_name w) t e) are.0)
          ∙ no));
    }
    by_test false e rest = rest
found_agree d t said (w ∷ ws) (f ∷ fs) are =
    subst (λ name. Agree t d (is_added t) (cond (bytes_eq (word_name w) t) (Some w) (find (is_word_named t) ws))
    (cond (bytes_eq name t) (Some f) (find (λ (f : RequiredForm). bytes_eq f.word t) fs))) (sym are.0.name)
    (by_test (bytes_eq (word_name w) t) refl (found_agree d t said ws fs are.1))
  where
    here : bytes_eq (word_name w) t ≡ true → Agree t d (is_added t) (Some w) (Some f)
    here e =
        subst (λ name. Agree name d (is_added t) (Some w) (Some f)) (same_bytes (word_name w) t e)
        (form_agrees d t (is_added t) w f said are.0)

    by_test : (s : Bool) → bytes_eq (word_name w) t ≡ s
        → Agree t d (is_added t) (find (is_word_named t) ws) (find (λ (f : RequiredForm). bytes_eq f.word t) fs)
        → Agree t d (is_added t) (cond s (Some w) (find (is_word_named t) ws))
        (cond s (Some f) (find (λ (f : RequiredForm). bytes_eq f.word t) fs))
    by_test true e rest = here e
    by_test false e rest = rest

form_is : (d : Data) (w : Word) (f : RequiredForm) → f.word ≡ word_name w
    → list_all (may_have w) (codes "do" ∷ f.keys) ≡ true
    → list_any (bytes_eq (codes "dry-run")) (codes "do" ∷ f.keys) ≡ false
    → list_any (bytes_eq (codes "if-entries")) (codes "do" ∷ f.keys) ≡ false
    → list_all (is_covered (word_name w) f.keys) (map key_name (keys_of w)) ≡ true
    → (HasOnly f.keys d → f.request ≡ request_by w (given_in d)) → IsForm d w f
form_is d w f name allows no_dry_run no_if_entries covers request = record {
  name = name;
  fits = record { allows = allows; no_dry_run = no_dry_run; no_if_entries = no_if_entries; covers = covers };
  request = request;
}

-- a register that does not say where it begins
whole_register : (g : Key → Option (List ℕ)) → g key.From ≡ None
    → option_and_then (λ branch. option_map (λ account. Register branch account (g key.Tag) None) (g key.Account))
    (g key.Branch) ≡ request_by word.Register g
whole_register g e = rw e (by_parts (g key.Branch) (g key.Account))
  where
    by_parts : (branch account : Option (List ℕ))
        → option_and_then (λ b. option_map (λ a. Register b a (g key.Tag) None) account) branch
        ≡ option_and_then (λ b. option_and_then (λ a. option_map (Register b a (g key.Tag)) (Some None)) account) branch
    by_parts None account = refl
    by_parts (Some b) None = refl
    by_parts (Some b) (Some a) = refl

all_forms : (d : Data) → AreForms d all_words (required_forms (λ k. text_at k d))
all_forms d = (
  form_is d word.Branch _ refl refl refl refl refl (λ _. refl),
  (
    form_is d word.Commodity _ refl refl refl refl refl (λ _. refl),
    (
      form_is d word.Import _ refl refl refl refl refl (λ _. refl),
      (
        form_is d word.Dispatch _ refl refl refl refl refl (λ _. refl),
        (
          form_is d word.Receive _ refl refl refl refl refl (λ _. refl),
          (
            form_is d word.Lock _ refl refl refl refl refl (λ _. refl),
            (
              form_is d word.Close _ refl refl refl refl refl (λ _. refl),
              (
                form_is d word.Balance _ refl refl refl refl refl (λ _. refl),
                (
                  form_is d word.Register _ refl refl refl refl refl (λ only. whole_register (given_in d)
                      (no_text (codes "branch" ∷ codes "account" ∷ codes "tag" ∷ []) d (codes "from") only refl)),
                  (
                    form_is d word.Transit _ refl refl refl refl refl (λ _. refl),
                    (
                      form_is d word.Journal _ refl refl refl refl refl (λ _. refl),
                      (refl, (refl, (refl, (refl, tt)))),
                    ),
                  ),
                ),
              ),
            ),
          ),
        ),
      ),
    ),
  ),
)

-- ---- objects and bytes
-- what is said of an object: the request is kept, and so is its refusal where nothing is added
pub record Keeps (required : Option Request) (adds : Bool) (spells : Option Spelled) : Type 0 where
  pub same : (r : Request) → required ≡ Some r → spells ≡ Some (in_earnest r)
  pub none : required ≡ None → adds ≡ false → spells ≡ None

object_keeps : (d : Data) → Keeps (required_of d) (has_addition d) (request_of d)
object_keeps d = by_said (text_at (codes "do") d) refl
  where
    by_said : (o : Option (List ℕ)) → text_at (codes "do") d ≡ o
        → Keeps (requested d (option_and_then (form_named d) o))
        (option_map_or (λ t. is_added t || has_added_key t d) o false)
        (asked d (option_and_then (λ text. find (is_word_named text) all_words) o))
    by_said None said = record { same = λ r e. absurd cc; none = λ _ _. refl }
    by_said (Some t) said =
        let agree = found_agree d t said all_words (required_forms (λ k. text_at k d)) (all_forms d) in
        record {
          same = agree.same;
          none = λ e no. (let parts = or_parts _ _ no in agree.none
              (none_any (λ name. list_any (bytes_eq name) (added_keys t)) (member_names d) parts.1) parts.0 e);
        }

pub bytes_keep : (bytes : List ℕ) → Keeps (required bytes) (adds bytes) (spelled bytes)
unfolding required spelled
bytes_keep bytes = by_utf8 (is_utf8 bytes) (read bytes)
  where
    by_utf8 : (t : Bool) (o : Option Data)
        → Keeps (if t then option_and_then required_of o else None) (option_map_or has_addition o false)
        (if t then option_and_then request_of o else None)
    by_utf8 false o = record { same = λ r e. absurd cc; none = λ _ _. refl }
    by_utf8 true None = record { same = λ r e. absurd cc; none = λ _ _. refl }
    by_utf8 true (Some d) = object_keeps d

-- an answer that is right keeps what is required
pub keeps_required : (bytes : List ℕ) (answer : Result Spelled Cause) → IfOk answer (λ s. spelled bytes ≡ Some s)
    → (answer ≡ Err cause.Request → spelled bytes ≡ None)
    → IfErr answer (λ c. (c ≡ cause.Request) ⊎ (c ≡ cause.OutOfMemory)) → KeepsRequired bytes answer
keeps_required bytes (Ok s) ok refused causes = record {
  same = λ r e. (let is : spelled bytes ≡ Some (in_earnest r) = (bytes_keep bytes).same r e in
      let it : s ≡ in_earnest r = cc in inl (ap Ok it));
  refused = λ e no. (let is : spelled bytes ≡ None = (bytes_keep bytes).none e no in absurd cc);
}
keeps_required bytes (Err c) ok refused (inl e) = record {
  same = λ r f. (let is : spelled bytes ≡ Some (in_earnest r) = (bytes_keep bytes).same r f in
      let none : spelled bytes ≡ None = refused (ap Err e) in absurd cc);
  refused = λ _ _. inl (ap Err e);
}
keeps_required bytes (Err c) ok refused (inr e) = record {
  same = λ _ _. inr (ap Err e);
  refused = λ _ _. inr (ap Err e);
}
