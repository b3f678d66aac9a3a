-- Which name and which parts the router finds in a path, and that the route is theirs.
use Rattle.std.proofs.Common.{zero, suc, ◌≡◌, ◌<◌, ◌+◌, ◌-◌, ◌&&◌, ℕ, List, [], ◌∷◌, ◌++◌, Some, None}
use Rattle.std.proofs.Common.{Option, Bool, true, false, cond, ◌==◌, length, get_or, arith, refl, sym, subst}
use Rattle.std.proofs.Common.{ap, ◌∙◌, codes, All, inl, inr, take, drop, append_assoc, Bor}
use Rattle.std.specs.Prelude.{⊤, ◌⊎◌, ltb, leb, nat_eq, if◌then◌else◌, MatchOption, option_copied, option_map}
use Rattle.std.specs.Prelude.{option_and_then}
use Rattle.std.specs.List.{slice_split, find, onto_first}
use Rattle.std.specs.Cmp.Lexicographic.{pointwise}
use Rattle.std.specs.Str.{IsUtf8, bytes_eq, is_utf8, chars}
use lib.Utf8.{encode}
use Rattle.std.proofs.lemmas.Str.{IsUtf8-from_is_utf8}
use Rattle.std.proofs.lemmas.Option.{same_Some}
use Rattle.std.proofs.lemmas.Str.{IsUtf8-between, IsUtf8-drop, IsCharBoundary-after_ascii, IsCharBoundary-before_ascii}
use Rattle.std.proofs.lemmas.List.{length-append, drop_at, take_at, take_all, get_or_at}
use Rattle.std.proofs.lemmas.List.Elements.{All-nil, All-cons}
use Rattle.std.proofs.lemmas.List.Splits.{slice_split_at, slice_split_none, slice_split-cons_no}
use Rattle.std.proofs.lemmas.Bool.Decides.{nat_tests}
use Rattle.matchit.specs.Seek.{first, seek, param_step, has_slash, own, step, or_else, segment, cuts}
use Rattle.matchit.specs.Seek.{with_suffix}
use Rattle.matchit.specs.Params.{walk, named, AllText, part_of, next_at, wild_stop}
use Rattle.matchit.specs.Rows.{RowsOf}
use Rattle.matchit.specs.Router.{RouteOf}
use Rattle.treasury_requests.specs.declared.words.Key.{Key}
use Rattle.treasury_requests.specs.declared.words.Word.{Word}
use Rattle.treasury_requests.specs.Words.{all_words, is_word_named, paths}
use Rattle.http_request.specs.declared.routes.Route.TheVariants.{Report}
use Rattle.http_request.specs.Routes.{pieces_at, paths_given, command_at, report_at, route_by, route_in}
use Rattle.http_request.specs.Routes.{route_of}
use Rattle.http_request.specs.Rows.{path_rows, name_row, parts_row}

-- ---- a walk over rows

-- of three answers in turn, all but one are none
first-only : {K : Type 0} (u v w : Option K) → v ≡ None → w ≡ None → or_else u (or_else v w) ≡ u
first-only None v w e f = ap (λ x. or_else x w) e ∙ f
first-only (Some k) v w e f = refl

second-only : {K : Type 0} (u v w : Option K) → u ≡ None → w ≡ None → or_else u (or_else v w) ≡ v
second-only u None w e f = ap (λ x. or_else x w) e ∙ f
second-only u (Some k) w e f = ap (λ x. or_else x (Some k)) e

third-only : {K : Type 0} (u v w : Option K) → u ≡ None → v ≡ None → or_else u (or_else v w) ≡ w
third-only u v w e f = ap (λ x. or_else x (or_else v w)) e ∙ ap (λ x. or_else x w) f

-- no row
seek_no_rows : {K : Type 0} (t : Bool) (n : ℕ) (p : List ℕ) → ((m : ℕ) → seek {K = K} m [] p ≡ None)
    → seek ((cond {A = ℕ × RowsOf K} t (0, []) (n, [])).0 - 1) (cond {A = ℕ × RowsOf K} t (0, []) (n, [])).1 p ≡ None
seek_no_rows true n p none = none 0
seek_no_rows false n p none = none (n - 1)

no-row : {K : Type 0} (n : ℕ) (p : List ℕ) → seek {K = K} n [] p ≡ None
unfolding seek param_step
no-row n [] = refl
no-row {K = K} zero (b ∷ p) =
    third-only _ _ _ (no-row {K = K} 0 p)
    (seek_no_rows (has_slash (b ∷ p)) (suc (length p)) p (λ m. no-row {K = K} m p))
no-row (suc n) (b ∷ p) = no-row n p

-- no row that goes on with a part
no-part : {K : Type 0} (rs : RowsOf K) (b : ℕ) (p : List ℕ) → rs ≡ []
    → seek ((param_step rs (b ∷ p)).0 - 1) (param_step rs (b ∷ p)).1 p ≡ None
unfolding param_step
no-part {K = K} rs b p e =
    let P : RowsOf K → Type 0 = λ r. seek ((param_step r (b ∷ p)).0 - 1) (param_step r (b ∷ p)).1 p ≡ None in
    subst P (sym e) (seek_no_rows (has_slash (b ∷ p)) (suc (length p)) p (λ m. no-row {K = K} m p))

-- rows that all go on with a byte
by-byte : {K : Type 0} (rs : RowsOf K) (b : ℕ) (p : List ℕ) → step 256 rs ≡ [] → step 257 rs ≡ []
    → seek 0 rs (b ∷ p) ≡ seek 0 (step b rs) p
unfolding seek
by-byte rs b p e f = first-only _ _ _ (no-part _ b p e) (ap own f)

-- rows that all go on with a part
by-part : {K : Type 0} (rs : RowsOf K) (b : ℕ) (p : List ℕ) → step b rs ≡ [] → step 257 rs ≡ []
    → seek 0 rs (b ∷ p) ≡ seek ((param_step (step 256 rs) (b ∷ p)).0 - 1) (param_step (step 256 rs) (b ∷ p)).1 p
unfolding seek
by-part rs b p e f = second-only _ _ _ (ap (λ r. seek 0 r p) e ∙ no-row 0 p) (ap own f)

-- a row that takes all that is left
takes-rest : {K : Type 0} (k : K) (b : ℕ) (p : List ℕ) → b < 256 → seek 0 ((257 ∷ [], k) ∷ []) (b ∷ p) ≡ Some k
unfolding seek
takes-rest k b p byte =
    let other : (257 == b) ≡ false = grind (arith, nat_tests) in
    third-only _ _ _ (ap (λ v. seek 0 (cond v (([], k) ∷ []) []) p) other ∙ no-row 0 p) (no-part _ b p refl)

-- bytes that are passed over
seek-append : {K : Type 0} (n : ℕ) (rs : RowsOf K) (a p : List ℕ) → length a ≡ n → seek n rs (a ++ p) ≡ seek 0 rs p
unfolding seek
seek-append n rs [] p e = ap (λ m. seek m rs p) (sym e)
seek-append zero rs (b ∷ a) p e = absurd (omega arith)
seek-append (suc n) rs (b ∷ a) p e = seek-append n rs a p (omega arith)

-- ---- texts without a slash

abbrev Plain : List ℕ → Type 0
Plain [] = ⊤
Plain (b ∷ text) = ((b == 47) ≡ false) × Plain text

-- a text has none, or is cut at its first
abbrev Cut : List ℕ → Type 0
Cut text = Plain text ⊎ ((front : List ℕ) × (rest : List ℕ) × (text ≡ front ++ 47 ∷ rest) × Plain front)

cut_text : (text : List ℕ) → Cut text
cut_text [] = inl tt
cut_text (b ∷ text) = by_byte (b == 47) refl (cut_text text)
  where
    by_byte : (v : Bool) → (b == 47) ≡ v → Cut text → Cut (b ∷ text)
    by_byte true e h =
        let same : b ≡ 47 = grind (arith, nat_tests) in inr ([], text, ap (λ (c : ℕ). c ∷ text) same, tt)
    by_byte false e (inl plain) = inl (e, plain)
    by_byte false e (inr (front, rest, is, plain)) = inr (b ∷ front, rest, ap (λ (t : List ℕ). b ∷ t) is, (e, plain))

plain_all : (text : List ℕ) → Plain text → All (λ x. (x == 47) ≡ false) text
plain_all [] plain = All-nil (λ x. (x == 47) ≡ false)
plain_all (b ∷ text) (first, rest) = All-cons (λ x. (x == 47) ≡ false) b text first (plain_all text rest)

-- the segment of a text, with the slash that ends it
segment_plain : (text : List ℕ) → Plain text → segment text ≡ text
segment_plain [] plain = refl
segment_plain (b ∷ text) (first, rest) =
    ap (λ (v : Bool). cond v (b ∷ []) (b ∷ segment text)) first
    ∙ ap (λ (t : List ℕ). b ∷ t) (segment_plain text rest)

segment_cut : (front rest : List ℕ) → Plain front → segment (front ++ 47 ∷ rest) ≡ front ++ 47 ∷ []
segment_cut [] rest plain = refl
segment_cut (b ∷ front) rest (first, plain) =
    ap (λ (v : Bool). cond v (b ∷ []) (b ∷ segment (front ++ 47 ∷ rest))) first
    ∙ ap (λ (t : List ℕ). b ∷ t) (segment_cut front rest plain)

no_slash : (text : List ℕ) → Plain text → has_slash text ≡ false
no_slash [] plain = refl
no_slash (b ∷ text) (first, rest) =
    ap (λ (v : Bool). cond v true (has_slash text)) first ∙ no_slash text rest

-- a segment that a slash ends, with something before it, has the suffix of the longer row
cut_off : (b : ℕ) (bs : List ℕ) → cuts ((b ∷ bs) ++ 47 ∷ []) (47 ∷ []) ≡ true
cut_off b bs =
    let seg : List ℕ = (b ∷ bs) ++ 47 ∷ [] in
    let n : length seg ≡ suc (length bs) + 1 = length-append (b ∷ bs) (47 ∷ []) in
    let longer : ltb 1 (length seg) ≡ true = grind (arith, nat_tests) in
    let end : drop (length seg - 1) seg ≡ 47 ∷ [] = drop_at (b ∷ bs) (47 ∷ []) (length seg - 1) (omega arith) in
    ap (λ (v : Bool). v && pointwise nat_eq (47 ∷ []) (drop (length seg - 1) seg)) longer
    ∙ ap (λ (t : List ℕ). pointwise nat_eq (47 ∷ []) t) end

-- one that no slash ends does not
last_plain : (text : List ℕ) → Plain text → pointwise nat_eq (47 ∷ []) (drop (length text - 1) text) ≡ false
last_plain [] plain = refl
last_plain (b ∷ []) (first, rest) =
    let other : nat_eq 47 b ≡ false = grind (arith, nat_tests) in
    ap (λ (v : Bool). v && true) other
last_plain (b ∷ c ∷ text) (first, rest) =
    let n : length (b ∷ c ∷ text) - 1 ≡ suc (length (c ∷ text) - 1) = omega arith in
    ap (λ (k : ℕ). pointwise nat_eq (47 ∷ []) (drop k (b ∷ c ∷ text))) n ∙ last_plain (c ∷ text) rest

not_cut_off : (text : List ℕ) → Plain text → cuts text (47 ∷ []) ≡ false
not_cut_off text plain =
    by_length (ltb 1 (length text))
  where
    by_length : (v : Bool) → (v && pointwise nat_eq (47 ∷ []) (drop (length text - 1) text)) ≡ false
    by_length true = last_plain text plain
    by_length false = refl

-- ---- the rows that a path goes on with

abbrev Rows : Type 0
Rows = RowsOf (RouteOf (Unit {0}))

-- those after its first slash, at a name
abbrev at_name : Rows
at_name = (47 ∷ 257 ∷ [], parts_row) ∷ ([], name_row) ∷ []

-- how the name is taken, by whether a slash ends its segment, and whether one stands in the path
abbrev step_by : List ℕ → List ℕ → Bool → Bool → ℕ × Rows
step_by path seg ended has =
    let suffix : List ℕ =
    cond (ltb (length {A = ℕ} (cond ended (47 ∷ []) [])) 0 && cuts seg []) [] (cond ended (47 ∷ []) []) in
    cond (ltb 0 (length suffix)) (length seg - length suffix, with_suffix suffix at_name)
    (cond has (0, []) (length path, at_name))

step_told : (path : List ℕ)
    → param_step at_name path ≡ step_by path (segment path) (cuts (segment path) (47 ∷ [])) (has_slash path)
unfolding param_step
step_told path = refl

-- a name with a slash after it
name_cut : (b : ℕ) (bs p : List ℕ) → Plain (b ∷ bs)
    → param_step at_name ((b ∷ bs) ++ 47 ∷ p) ≡ (suc (length bs), (47 ∷ 257 ∷ [], parts_row) ∷ [])
name_cut b bs p plain =
    let path : List ℕ = (b ∷ bs) ++ 47 ∷ p in
    let seg = segment_cut (b ∷ bs) p plain in
    let ended : cuts (segment path) (47 ∷ []) ≡ true =
    ap (λ (t : List ℕ). cuts t (47 ∷ [])) seg ∙ cut_off b bs in
    let n : length (segment path) - 1 ≡ suc (length bs) =
    ap (λ (t : List ℕ). length t - 1) seg ∙ (let l = length-append (b ∷ bs) (47 ∷ []) in omega arith) in
    step_told path
    ∙ (ap (λ (v : Bool). step_by path (segment path) v (has_slash path)) ended
    ∙ ap (λ (k : ℕ). (k, (47 ∷ 257 ∷ [], parts_row) ∷ [])) n)

-- a name alone
name_whole : (text : List ℕ) → Plain text → param_step at_name text ≡ (length text, at_name)
name_whole text plain =
    let ended : cuts (segment text) (47 ∷ []) ≡ false =
    ap (λ (t : List ℕ). cuts t (47 ∷ [])) (segment_plain text plain) ∙ not_cut_off text plain in
    step_told text
    ∙ (ap (λ (v : Bool). step_by text (segment text) v (has_slash text)) ended
    ∙ ap (λ (v : Bool). step_by text (segment text) false v) (no_slash text plain))

-- what is left of the rows after a name and a slash
abbrev rest_rows : Rows
rest_rows = (257 ∷ [], parts_row) ∷ []

no_param : (b : ℕ) → b < 256 → step b (step 47 path_rows) ≡ []
no_param b byte =
    let other : (256 == b) ≡ false = grind (arith, nat_tests) in
    ap (λ (v : Bool). cond v ((47 ∷ 257 ∷ [], parts_row) ∷ cond v (([], name_row) ∷ []) [])
    (cond v (([], name_row) ∷ []) []))
    other

-- all bytes are passed over
seek-all : (n : ℕ) (rs : Rows) (a : List ℕ) → length a ≡ n → seek n rs a ≡ own rs
unfolding seek
seek-all n rs [] e = refl
seek-all zero rs (b ∷ a) e = absurd (omega arith)
seek-all (suc n) rs (b ∷ a) e = seek-all n rs a (omega arith)

-- a path goes on after its first slash
after_slash : (b : ℕ) (p : List ℕ) → b < 256 → first path_rows (47 ∷ b ∷ p)
    ≡ seek ((param_step at_name (b ∷ p)).0 - 1) (param_step at_name (b ∷ p)).1 p
after_slash b p byte =
    by-byte path_rows 47 (b ∷ p) refl refl ∙ by-part (step 47 path_rows) b p (no_param b byte) refl

goes_on : (b : ℕ) (bs p : List ℕ) → b < 256 → Plain (b ∷ bs)
    → first path_rows (47 ∷ (b ∷ bs) ++ 47 ∷ p) ≡ seek 0 rest_rows p
goes_on b bs p byte plain =
    let rs : Rows = (47 ∷ 257 ∷ [], parts_row) ∷ [] in
    after_slash b (bs ++ 47 ∷ p) byte
    ∙ (ap (λ (q : ℕ × Rows). seek (q.0 - 1) q.1 (bs ++ 47 ∷ p)) (name_cut b bs p plain)
    ∙ (seek-append (suc (length bs) - 1) rs bs (47 ∷ p) (omega arith) ∙ by-byte rs 47 p refl refl))

ends_there : (b : ℕ) (bs : List ℕ) → b < 256 → Plain (b ∷ bs) → first path_rows (47 ∷ b ∷ bs) ≡ Some name_row
ends_there b bs byte plain =
    after_slash b bs byte
    ∙ (ap (λ (q : ℕ × Rows). seek (q.0 - 1) q.1 bs) (name_whole (b ∷ bs) plain)
    ∙ seek-all (length (b ∷ bs) - 1) at_name bs (omega arith))

-- no name, and no slash in front
no_name_found : (p : List ℕ) → first path_rows (47 ∷ 47 ∷ p) ≡ None
unfolding seek
no_name_found p =
    after_slash 47 p (omega arith)
    ∙ (ap (λ (q : ℕ × Rows). seek (q.0 - 1) q.1 p)
    (step_told (47 ∷ p)) ∙ no-row 0 p)

not_slashed : (b : ℕ) (p : List ℕ) → (b == 47) ≡ false → first path_rows (b ∷ p) ≡ None
not_slashed b p other =
    let turned : (47 == b) ≡ false = grind (arith, nat_tests) in
    by-byte path_rows b p refl refl
    ∙ (ap (λ (v : Bool). seek 0 (cond v ((256 ∷ 47 ∷ 257 ∷ [], parts_row) ∷ cond v ((256 ∷ [], name_row) ∷ []) [])
    (cond v ((256 ∷ [], name_row) ∷ []) [])) p) turned ∙ no-row 0 p)

-- ---- what the parameters took

walk_parts : (name rest : List ℕ) → Plain name → walk parts_row.pattern parts_row.text (47 ∷ name ++ 47 ∷ rest)
    parts_row.names 0 0 ≡ (codes "name", name) ∷ (codes "parts", rest) ∷ []
walk_parts name rest plain =
    let path : List ℕ = 47 ∷ name ++ 47 ∷ rest in
    let n : length path ≡ suc (length name + suc (length rest)) = ap suc (length-append name (47 ∷ rest)) in
    let begins : next_at (length path) 0 ≡ 1 =
    (let t : ltb 0 (length path) ≡ true = grind (arith, nat_tests) in ap (λ (v : Bool). cond {A = ℕ} v 1 0) t) in
    let ends : wild_stop parts_row.pattern 1 path 1 ≡ length name + 1 =
    ap (λ (t : List ℕ). 1 + length t - 1) (segment_cut name rest plain)
    ∙ (let l = length-append name (47 ∷ []) in omega arith) in
    let again : next_at (length path) (length name + 1) ≡ length name + 2 =
    (let t : ltb (length name + 1) (length path) ≡ true = grind (arith, nat_tests) in
    ap (λ (v : Bool). cond v (length name + 1 + 1) (length name + 1)) t ∙ omega arith) in
    let first_part : part_of path 1 (length name + 1) ≡ name =
    (let s : leb 1 (length name + 1) ≡ true = grind (arith, nat_tests) in
    let t : leb (length name + 1) (length path) ≡ true = grind (arith, nat_tests) in
    ap (λ (v : Bool). cond (v && leb (length name + 1) (length path))
    (take (length name + 1 - 1) (drop 1 path)) []) s
    ∙ (ap (λ (v : Bool). cond v (take (length name + 1 - 1) (drop 1 path)) []) t
    ∙ take_at name (47 ∷ rest) (length name + 1 - 1) (omega arith))) in
    let second_part : part_of path (length name + 2) (length path) ≡ rest =
    (let s : leb (length name + 2) (length path) ≡ true = grind (arith, nat_tests) in
    let t : leb (length path) (length path) ≡ true = grind (arith, nat_tests) in
    let behind : drop (length name + 2) path ≡ rest =
    ap (λ (t : List ℕ). drop (length name + 2) (47 ∷ t)) (sym (append_assoc name (47 ∷ []) rest))
    ∙ drop_at (47 ∷ name ++ 47 ∷ []) rest (length name + 2)
    (let l = length-append name (47 ∷ []) in omega arith) in
    ap (λ (v : Bool). cond (v && leb (length path) (length path))
    (take (length path - (length name + 2)) (drop (length name + 2) path)) []) s
    ∙ (ap (λ (v : Bool). cond v (take (length path - (length name + 2)) (drop (length name + 2) path)) []) t
    ∙ (ap (λ (t : List ℕ). take (length path - (length name + 2)) t) behind
    ∙ take_all (length path - (length name + 2)) rest (omega arith)))) in
    ap (λ (k : ℕ). (codes "name", part_of path k (wild_stop parts_row.pattern 1 path k))
    ∷ (codes "parts", part_of path (next_at (length path) (wild_stop parts_row.pattern 1 path k)) (length path)) ∷ [])
    begins
    ∙ (ap (λ (s : ℕ). (codes "name", part_of path 1 s)
    ∷ (codes "parts", part_of path (next_at (length path) s) (length path)) ∷ []) ends
    ∙ (ap (λ (t : List ℕ). (codes "name", t)
    ∷ (codes "parts", part_of path (next_at (length path) (length name + 1)) (length path)) ∷ []) first_part
    ∙ (ap (λ (k : ℕ). (codes "name", name) ∷ (codes "parts", part_of path k (length path)) ∷ []) again
    ∙ ap (λ (t : List ℕ). (codes "name", name) ∷ (codes "parts", t) ∷ []) second_part)))

walk_name : (name : List ℕ) → walk name_row.pattern name_row.text (47 ∷ name) name_row.names 0 0
    ≡ (codes "name", name) ∷ []
walk_name name =
    let path : List ℕ = 47 ∷ name in
    let begins : next_at (length path) 0 ≡ 1 =
    (let t : ltb 0 (length path) ≡ true = grind (arith, nat_tests) in ap (λ (v : Bool). cond {A = ℕ} v 1 0) t) in
    let s : leb 1 (length path) ≡ true = grind (arith, nat_tests) in
    let t : leb (length path) (length path) ≡ true = grind (arith, nat_tests) in
    let whole : part_of path 1 (length path) ≡ name =
    ap (λ (v : Bool). cond (v && leb (length path) (length path)) (take (length path - 1) name) []) s
    ∙ (ap (λ (v : Bool). cond v (take (length path - 1) name) []) t
    ∙ take_all (length path - 1) name (omega arith)) in
    ap (λ (k : ℕ). (codes "name", part_of path k (length path)) ∷ []) begins
    ∙ ap (λ (t : List ℕ). (codes "name", t) ∷ []) whole

-- ---- what no method leads to

no_word : (method : List ℕ) (parts : List (List ℕ)) → route_by method [] parts ≡ None
no_word method parts = by_method (bytes_eq method (codes "POST")) (bytes_eq method (codes "GET"))
  where
    by_method : (post get : Bool) → (if post && bytes_eq [] (codes "commands") then command_at parts
        else if get then report_at [] parts else None) ≡ None
    by_method true true = refl
    by_method true false = refl
    by_method false true = refl
    by_method false false = refl

no_part_there : (paths : List (List Key)) → paths_given paths ([] ∷ []) ≡ None
no_part_there [] = refl
no_part_there ([] ∷ paths) = no_part_there paths
no_part_there ((k ∷ keys) ∷ paths) = no_part_there paths

no_part : (method name : List ℕ) → route_by method name ([] ∷ []) ≡ None
no_part method name =
    by_method (bytes_eq method (codes "POST") && bytes_eq name (codes "commands")) (bytes_eq method (codes "GET"))
    (find (is_word_named name) all_words)
  where
    by_method : (post get : Bool) (word : Option Word) → (if post then command_at ([] ∷ [])
        else if get then option_and_then (λ w. option_map (Report w) (paths_given (paths w) ([] ∷ []))) word
        else None) ≡ None
    by_method true get word = refl
    by_method false true None = refl
    by_method false true (Some w) = ap (option_map (Report w)) (no_part_there (paths w))
    by_method false false word = refl

no_slash_first : (method : List ℕ) (b : ℕ) (pieces : List (List ℕ)) → route_in method (onto_first b pieces) ≡ None
no_slash_first method b [] = refl
no_slash_first method b (piece ∷ pieces) = refl

-- ---- what the router finds

-- it finds nothing, and then no method leads anywhere; or the name and the parts of the path
abbrev Finds : List ℕ → List ℕ → Option (List ℕ) → Type 0
Finds path name parts =
    (r : RouteOf (Unit {0})) × (first path_rows path ≡ Some r) × AllText (walk r.pattern r.text path r.names 0 0)
    × (named (codes "name") (walk r.pattern r.text path r.names 0 0) ≡ Some name)
    × (named (codes "parts") (walk r.pattern r.text path r.names 0 0) ≡ parts)
    × (slice_split (λ b. b == 47) path ≡ [] ∷ name ∷ pieces_at 47 parts)

abbrev pub Routes : List ℕ → Type 0
Routes path =
    ((first path_rows path ≡ None) × ((method : List ℕ) → route_of method path ≡ None))
    ⊎ ((name : List ℕ) × (parts : Option (List ℕ)) × Finds path name parts)

name_text : IsUtf8 (codes "name")
unfolding is_utf8 chars encode
name_text = IsUtf8-from_is_utf8 (codes "name") refl

parts_text : IsUtf8 (codes "parts")
unfolding is_utf8 chars encode
parts_text = IsUtf8-from_is_utf8 (codes "parts") refl

found_name : (b : ℕ) (bs : List ℕ) → b < 256 → IsUtf8 (47 ∷ b ∷ bs) → Plain (b ∷ bs) → Finds (47 ∷ b ∷ bs) (b ∷ bs) None
found_name b bs byte text plain =
    let took = walk_name (b ∷ bs) in
    let whole : IsUtf8 (b ∷ bs) = IsUtf8-drop (47 ∷ b ∷ bs) 1 text
    (IsCharBoundary-after_ascii (47 ∷ b ∷ bs) 0 text (omega arith) (omega arith)) in (
      name_row,
      ends_there b bs byte plain,
      subst AllText (sym took) (name_text, whole, tt),
      ap (named (codes "name")) took,
      ap (named (codes "parts")) took,
      ap (λ (t : List (List ℕ)). [] ∷ t) (slice_split_none (λ b. b == 47) (b ∷ bs) (plain_all (b ∷ bs) plain)),
    )

found_parts : (b : ℕ) (bs : List ℕ) (c : ℕ) (cs : List ℕ) → b < 256 → c < 256 → IsUtf8 (47 ∷ (b ∷ bs) ++ 47 ∷ c ∷ cs)
    → Plain (b ∷ bs) → Finds (47 ∷ (b ∷ bs) ++ 47 ∷ c ∷ cs) (b ∷ bs) (Some (c ∷ cs))
found_parts b bs c cs byte other text plain =
    let name : List ℕ = b ∷ bs in
    let rest : List ℕ = c ∷ cs in
    let path : List ℕ = 47 ∷ name ++ 47 ∷ rest in
    let took = walk_parts name rest plain in
    let n : length path ≡ suc (length name + suc (length rest)) = ap suc (length-append name (47 ∷ rest)) in
    let at : get_or path (length name + 1) 0 ≡ 47 = get_or_at (47 ∷ name) 47 rest 0 (length name + 1) (omega arith) in
    let small : get_or path (length name + 1) 0 < 128 = omega arith in
    let before = IsCharBoundary-before_ascii path (length name + 1) (omega arith) small in
    let after = IsCharBoundary-after_ascii path (length name + 1) text (omega arith) small in
    let start = IsCharBoundary-after_ascii path 0 text (omega arith) (omega arith) in
    let first_text : IsUtf8 name =
    subst IsUtf8 (take_at name (47 ∷ rest) (length name + 1 - 1) (omega arith))
    (IsUtf8-between path 1 (length name + 1) text (omega arith) start before) in
    let behind : drop (length name + 1 + 1) path ≡ rest =
    ap (λ (t : List ℕ). drop (length name + 1 + 1) (47 ∷ t)) (sym (append_assoc name (47 ∷ []) rest))
    ∙ drop_at (47 ∷ name ++ 47 ∷ []) rest (length name + 1 + 1)
    (let l = length-append name (47 ∷ []) in omega arith) in
    let rest_text : IsUtf8 rest = subst IsUtf8 behind (IsUtf8-drop path (length name + 1 + 1) text after) in (
      parts_row,
      goes_on b bs rest byte plain ∙ takes-rest parts_row c cs other,
      subst AllText (sym took) (name_text, first_text, (parts_text, rest_text, tt)),
      ap (named (codes "name")) took,
      ap (named (codes "parts")) took,
      ap (λ (t : List (List ℕ)). [] ∷ t) (slice_split_at (λ b. b == 47) name 47 rest (plain_all name plain) refl),
    )

-- the same of each path
pub routed : (path : List ℕ) → ((i : ℕ) → get_or path i 0 < 256) → IsUtf8 path → Routes path
unfolding route_of seek
routed [] bytes text = inl (refl, λ method. refl)
routed (a ∷ path) bytes text = by_slash (a == 47) refl
  where
    behind : (p : List ℕ) → ((i : ℕ) → get_or (47 ∷ p) i 0 < 256) → IsUtf8 (47 ∷ p) → Cut p → Routes (47 ∷ p)
    behind [] bytes text cut = inl (by-byte path_rows 47 [] refl refl, λ method. no_word method [])
    behind (b ∷ bs) bytes text (inl plain) = inr (b ∷ bs, None, found_name b bs (bytes 1) text plain)
    behind (b ∷ bs) bytes text (inr ([], rest, is, plain)) =
        subst (λ (t : List ℕ). Routes (47 ∷ t)) (sym is) (inl (no_name_found rest, λ method. no_word method _))
    behind (b ∷ bs) bytes text (inr (c ∷ cs, [], is, plain)) =
        let byte : c < 256 = subst (λ (t : List ℕ). get_or (47 ∷ t) 1 0 < 256) is (bytes 1) in
        subst (λ (t : List ℕ). Routes (47 ∷ t)) (sym is) (inl (
          goes_on c cs [] byte plain,
          λ method. ap (λ (t : List (List ℕ)). route_in method ([] ∷ t))
              (slice_split_at (λ b. b == 47) (c ∷ cs) 47 [] (plain_all (c ∷ cs) plain) refl)
              ∙ no_part method (c ∷ cs),
        ))
    behind (b ∷ bs) bytes text (inr (c ∷ cs, d ∷ ds, is, plain)) =
        let byte : c < 256 = subst (λ (t : List ℕ). get_or (47 ∷ t) 1 0 < 256) is (bytes 1) in
        let at : get_or (47 ∷ b ∷ bs) (length (c ∷ cs) + 2) 0 ≡ d =
        ap (λ (t : List ℕ). get_or (47 ∷ t) (length (c ∷ cs) + 2) 0)
        (is ∙ sym (append_assoc (c ∷ cs) (47 ∷ []) (d ∷ ds)))
        ∙ get_or_at (47 ∷ (c ∷ cs) ++ 47 ∷ []) d ds 0 (length (c ∷ cs) + 2)
        (let l = length-append (c ∷ cs) (47 ∷ []) in omega arith) in
        let next : d < 256 = subst (λ (n : ℕ). n < 256) at (bytes (length (c ∷ cs) + 2)) in
        subst (λ (t : List ℕ). Routes (47 ∷ t)) (sym is) (inr (
          c ∷ cs,
          Some (d ∷ ds),
          found_parts c cs d ds byte next (subst (λ (t : List ℕ). IsUtf8 (47 ∷ t)) is text) plain,
        ))

    by_slash : (v : Bool) → (a == 47) ≡ v → Routes (a ∷ path)
    by_slash true e =
        let same : a ≡ 47 = grind (arith, nat_tests) in
        subst (λ (c : ℕ). Routes (c ∷ path)) (sym same)
        (behind path (subst (λ (c : ℕ). (i : ℕ) → get_or (c ∷ path) i 0 < 256) same bytes)
        (subst (λ (c : ℕ). IsUtf8 (c ∷ path)) same text) (cut_text path))
    by_slash false e = inl (
      not_slashed a path e,
      λ method. ap (route_in method) (slice_split-cons_no (λ b. b == 47) a path e)
          ∙ no_slash_first method a (slice_split (λ b. b == 47) path),
    )

-- what the router says of a path that it finds, of equal texts
pub route_told : (path at pattern text : List ℕ) (names : List (ℕ × ℕ)) (value : Unit {0}) (name : List ℕ)
    (parts : Option (Bor (List ℕ))) → Routes path
    → first path_rows path ≡ Some (record { pattern = pattern; text = text; names = names; value = value }) → at ≡ path
    → (AllText (walk pattern text at names 0 0) → named (codes "name") (walk pattern text at names 0 0) ≡ Some name)
    → (AllText (walk pattern text at names 0 0)
    → MatchOption parts (named (codes "parts") (walk pattern text at names 0 0) ≡ None)
    (λ part. named (codes "parts") (walk pattern text at names 0 0) ≡ Some part.now))
    → (method : List ℕ) → route_of method path ≡ route_by method name (pieces_at 47 (option_copied parts))
unfolding route_of
route_told path at pattern text names value name parts (inl (none, nowhere)) found same n p = λ method.
    absurd (let e = sym none ∙ found in cc)
route_told path at pattern text names value name parts (inr (other, more, (r, is, texts, named_is, parts_are, cut)))
    found same n p = λ method.
    let equal : r ≡ record { pattern = pattern; text = text; names = names; value = value } =
    same_Some _ _ (sym is ∙ found) in
    let took : walk r.pattern r.text path r.names 0 0 ≡ walk pattern text at names 0 0 =
    ap (λ (x : RouteOf (Unit {0})). walk x.pattern x.text path x.names 0 0) equal
    ∙ ap (λ (t : List ℕ). walk pattern text t names 0 0) (sym same) in
    let all = subst AllText took texts in
    let its_name : other ≡ name =
    same_Some _ _ (sym named_is ∙ (ap (named (codes "name")) took ∙ n all)) in
    let its_parts : more ≡ option_copied parts =
    by_parts parts (p all) (sym (ap (named (codes "parts")) took) ∙ parts_are) in
    ap (route_in method) cut
    ∙ (ap (λ (t : List ℕ). route_by method t (pieces_at 47 more)) its_name
    ∙ ap (λ (o : Option (List ℕ)). route_by method name (pieces_at 47 o)) its_parts)
  where
    by_parts : (o : Option (Bor (List ℕ)))
        → MatchOption o (named (codes "parts") (walk pattern text at names 0 0) ≡ None)
        (λ part. named (codes "parts") (walk pattern text at names 0 0) ≡ Some part.now)
        → named (codes "parts") (walk pattern text at names 0 0) ≡ more → more ≡ option_copied o
    by_parts None told is = sym is ∙ told
    by_parts (Some part) told is = sym is ∙ told

-- it finds no path without a name
pub name_there : (path at pattern text : List ℕ) (names : List (ℕ × ℕ)) (value : Unit {0}) → Routes path
    → first path_rows path ≡ Some (record { pattern = pattern; text = text; names = names; value = value }) → at ≡ path
    → (AllText (walk pattern text at names 0 0) → named (codes "name") (walk pattern text at names 0 0) ≡ None) → ⊥
name_there path at pattern text names value (inl (none, nowhere)) found same n = let e = sym none ∙ found in cc
name_there path at pattern text names value (inr (other, more, (r, is, texts, named_is, parts_are, cut))) found same n =
    let equal : r ≡ record { pattern = pattern; text = text; names = names; value = value } =
    same_Some _ _ (sym is ∙ found) in
    let took : walk r.pattern r.text path r.names 0 0 ≡ walk pattern text at names 0 0 =
    ap (λ (x : RouteOf (Unit {0})). walk x.pattern x.text path x.names 0 0) equal
    ∙ ap (λ (t : List ℕ). walk pattern text t names 0 0) (sym same) in
    let e = sym named_is ∙ (ap (named (codes "name")) took ∙ n (subst AllText took texts)) in cc

-- where it finds nothing, no method leads anywhere
pub nothing_there : (path : List ℕ) → Routes path → first path_rows path ≡ None → (method : List ℕ)
    → route_of method path ≡ None
nothing_there path (inl (none, nowhere)) missing = nowhere
nothing_there path (inr (other, more, (r, is, texts, named_is, parts_are, cut))) missing = λ method.
    absurd (let e = sym is ∙ missing in cc)
