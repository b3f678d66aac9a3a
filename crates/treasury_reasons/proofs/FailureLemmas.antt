-- what an assertion looks at, and the transactions that may have broken it
use Rattle.std.proofs.Common.{◌≡◌, ◌<◌, ◌+◌, ◌∙◌, ℕ, ℤ, Bool, true, false, ◌&&◌, ◌||◌, List, [], ◌∷◌, ◌++◌, length}
use Rattle.std.proofs.Common.{drop, take, get_or, map, refl, ap, sym, append_assoc}
use Rattle.std.proofs.Common.{Option, Some, None, inl, inr}
use Rattle.std.specs.Prelude.{◌↔◌, IsTrue, if◌then◌else◌, nat_eq, nat_lt}
use Rattle.std.specs.Bool.{Decides}
use Rattle.std.specs.Borrow.{Bor}
use Rattle.std.specs.List.{list_any, take-map}
use Rattle.std.specs.Ordering.{int_eq}
use Rattle.std.specs.Str.{bytes_eq}
use Rattle.std.proofs.lemmas.List.{length-map}
use Rattle.std.proofs.lemmas.Bool.Decides.{same_from_decides, Decides-and, Decides-like, Decides-eqb, Decides-int_eq}
use Rattle.std.proofs.lemmas.Slice.Eq.{bytes_eq-Decides}
use Rattle.money_core.specs.declared.cause.Cause.{Cause}
use Rattle.money_core.specs.declared.cause.Cause.TheVariants.{ClaimFailed}
use Rattle.money_core.specs.declared.day.Day.{Day}
use Rattle.money_core.specs.declared.style.Style.{Style}
use Rattle.money_core.proofs.ListLemmas.{drop_at}
use Rattle.book_core.specs.declared.leg.Leg.{Leg}
use Rattle.book_core.specs.declared.place.Place.{Place}
use Rattle.book_core.specs.declared.refusal.Failure.{Failure}
use Rattle.book_core.specs.Book.{Posted, posted_legs}
use Rattle.journal_format.specs.declared.txn.Located.{Located}
use Rattle.treasury_state.specs.declared.record.Record.{Record}
use Rattle.treasury_state.specs.Federation.{Federation, records_of}
use Rattle.treasury_state.proofs.RestLemmas.{same_heads, same_tails}
use Rattle.treasury_core.specs.Step.{records_in_file, new_in}
use Rattle.treasury_requests.specs.declared.request.Request.{Request}
use Rattle.treasury_messages.specs.Said.{Said}
use Rattle.treasury_reasons.specs.declared.touching.Watched.{Watched}
use Rattle.treasury_reasons.specs.Reading.{line_of}
use Rattle.treasury_reasons.specs.Failure.{is_seen, touches_watched, touching, same_leg, same_legs, most_listed}
use Rattle.treasury_reasons.specs.Failure.{more_touching_said, held_claim_said, new_claim_said, claim_said}
use Rattle.treasury_reasons.specs.Failure.{failure_said}
use Rattle.treasury_reasons.specs.Failure.{judged_branch, text_asked, told_failure}
use Rattle.treasury_reasons.specs.Told.{BeginsWithSentence}

-- ---- legs that are looked at
abbrev posted_at : Day → ℕ → ℕ → Leg → Posted
posted_at day n k x = record { place = record { day = day; entry = n; leg = k }; leg = x }

pub seen_next : (w : Watched) (end : Place) (day : Day) (n i : ℕ) (legs : List Leg) (x : Leg) (all : Bool)
    → i < length legs → x ≡ get_or legs i x → is_seen w end (posted_at day n (i + 1) x) ≡ false
    → list_any (is_seen w end) (posted_legs day n (i + 1) (drop i legs)) ≡ all
    → list_any (is_seen w end) (posted_legs day n (i + 1 + 1) (drop (i + 1) legs)) ≡ all
seen_next w end day n i legs x all h e off before =
    sym (ap (λ (t : Bool). t || list_any (is_seen w end) (posted_legs day n (i + 1 + 1) (drop (i + 1) legs))) off)
    ∙ sym (ap (λ (ys : List Leg). list_any (is_seen w end) (posted_legs day n (i + 1) ys)) (drop_at legs i x h e))
    ∙ before

pub seen_here : (w : Watched) (end : Place) (day : Day) (n i : ℕ) (legs : List Leg) (x : Leg) (all : Bool)
    → i < length legs → x ≡ get_or legs i x → is_seen w end (posted_at day n (i + 1) x) ≡ true
    → list_any (is_seen w end) (posted_legs day n (i + 1) (drop i legs)) ≡ all → true ≡ all
seen_here w end day n i legs x all h e on before =
    sym (ap (λ (t : Bool). t || list_any (is_seen w end) (posted_legs day n (i + 1 + 1) (drop (i + 1) legs))) on)
    ∙ sym (ap (λ (ys : List Leg). list_any (is_seen w end) (posted_legs day n (i + 1) ys)) (drop_at legs i x h e))
    ∙ before

-- ---- new records, one by one
pub touching_next : (w : Watched) (end : Place) (n i : ℕ) (list front next all : List Record) (r : Record) (t : Bool)
    → i < length list → r ≡ get_or list i r → t ≡ touches_watched w end n r.entry
    → next ≡ front ++ (if t then r ∷ [] else []) → front ++ touching w end n (drop i list) ≡ all
    → next ++ touching w end (n + 1) (drop (i + 1) list) ≡ all
touching_next w end n i list front next all r t h e is added before =
    let rest = touching w end (n + 1) (drop (i + 1) list) in
    ap (λ (xs : List Record). xs ++ rest) added
    ∙ append_assoc front (if t then r ∷ [] else []) rest
    ∙ ap (λ (u : Bool). front ++ ((if u then r ∷ [] else []) ++ rest)) is
    ∙ sym (ap (λ (xs : List Record). front ++ touching w end n xs) (drop_at list i r h e))
    ∙ before

-- ---- legs that are the same
leg_from : (x y : Leg) → (x.account ≡ y.account) × ((x.unit.0 ≡ y.unit.0) × (x.qty ≡ y.qty)) → x ≡ y
leg_from x y (a, (u, q)) =
    let made : List ℕ → ℕ → ℤ → Leg = λ a u q. record { account = a; unit = record { 0 = u }; qty = q } in
    ap (λ (k : List ℕ). made k x.unit.0 x.qty) a
    ∙ ap (λ (k : ℕ). made y.account k x.qty) u
    ∙ ap (λ (k : ℤ). made y.account y.unit.0 k) q

leg_decides : (x y : Leg) → Decides (same_leg x y) (x ≡ y)
leg_decides x y = Decides-like (same_leg x y) (leg_from x y)
    (λ e. (ap (λ (l : Leg). l.account) e, (ap (λ (l : Leg). l.unit.0) e, ap (λ (l : Leg). l.qty) e)))
    (Decides-and (bytes_eq x.account y.account) (nat_eq x.unit.0 y.unit.0 && int_eq x.qty y.qty)
    (bytes_eq-Decides x.account y.account)
    (Decides-and (nat_eq x.unit.0 y.unit.0) (int_eq x.qty y.qty) (Decides-eqb x.unit.0 y.unit.0)
    (Decides-int_eq x.qty y.qty)))

pub legs_decides : (xs ys : List Leg) → Decides (same_legs xs ys) (xs ≡ ys)
legs_decides [] [] = (λ e. refl, λ e. refl)
legs_decides [] (y ∷ ys) = (λ e. absurd cc, λ e. absurd cc)
legs_decides (x ∷ xs) [] = (λ e. absurd cc, λ e. absurd cc)
legs_decides (x ∷ xs) (y ∷ ys) = Decides-like (same_leg x y && same_legs xs ys)
    (λ (e : (x ≡ y) × (xs ≡ ys)). ap (λ (l : Leg). l ∷ xs) e.0 ∙ ap (λ (ls : List Leg). y ∷ ls) e.1)
    (λ e. (same_heads x y xs ys e, same_tails x y xs ys e))
    (Decides-and (same_leg x y) (same_legs xs ys) (leg_decides x y) (legs_decides xs ys))

pub legs_test : (xs ys : List Leg) (b : Bool) → IsTrue b ↔ (xs ≡ ys) → b ≡ same_legs xs ys
legs_test xs ys b h = same_from_decides b (same_legs xs ys) h (legs_decides xs ys)

-- ---- the first few, and how many more there are
abbrev list_of : List (Bor Record) → List Record
list_of found = map (λ (r : Bor Record). r.now) found

pub listed_said : (f : Record → Said) (new listed : List (Bor Record)) (old one : List Said)
    → listed ≡ take most_listed new → one ≡ old ++ map f (list_of listed)
    → one ++ more_touching_said (length new)
    ≡ old ++ (map f (take most_listed (list_of new)) ++ more_touching_said (length (list_of new)))
listed_said f new listed old one few first =
    ap (λ (xs : List Said). xs ++ more_touching_said (length new))
    (first
    ∙ ap (λ (ys : List (Bor Record)). old ++ map f (list_of ys)) few
    ∙ ap (λ (ys : List Record). old ++ map f ys) (sym (take-map (λ (r : Bor Record). r.now) most_listed new)))
    ∙ append_assoc old (map f (take most_listed (list_of new))) (more_touching_said (length new))
    ∙ ap (λ (n : ℕ). old ++ (map f (take most_listed (list_of new)) ++ more_touching_said n))
    (sym (length-map new (λ (r : Bor Record). r.now)))

-- what was said in three steps
pub said_thrice : (a b c d x y z : List Said) → b ≡ a ++ x → c ≡ b ++ y → d ≡ c ++ z → d ≡ a ++ (x ++ (y ++ z))
said_thrice a b c d x y z e f g =
    g
    ∙ ap (λ (w : List Said). w ++ z) (f ∙ ap (λ (w : List Said). w ++ y) e)
    ∙ append_assoc (a ++ x) y z
    ∙ append_assoc a x (y ++ z)

-- ---- the sentence comes first
begins_so : (cause : Cause) (xs ys : List Said) → BeginsWithSentence cause xs → BeginsWithSentence cause (xs ++ ys)
begins_so cause [] ys h = absurd h
begins_so cause (x ∷ xs) ys h = h

claim_begins : (source text : List ℕ) (line : Record → ℕ) (count : ℕ) (place : Place) (o : Option Record)
    → BeginsWithSentence ClaimFailed (claim_said source text line count place o)
claim_begins source text line count place None = inl refl
claim_begins source text line count place (Some r) = by_test (nat_lt count place.entry)
  where
    by_test : (t : Bool) → BeginsWithSentence ClaimFailed
        (if t then new_claim_said source text (line r) place r else held_claim_said place r)
    by_test true = inr (source, line r, refl)
    by_test false = inl refl

pub failure_begins : (styles : List Style) (records : List Record) (source text : List ℕ) (line : Record → ℕ)
    (new : List Record) (f : Failure)
    → BeginsWithSentence ClaimFailed (failure_said styles records source text line new f)
unfolding failure_said
failure_begins styles records source text line new f =
    begins_so ClaimFailed (claim_said source text line (length records) f.place _) _
    (claim_begins source text line (length records) f.place _)

-- ---- all of it, in a state
pub failure_told : (f : Federation) (request : Request) (source : List ℕ) (failure : Failure) (said : List Said)
    (styles : List Style) (records rows added : List Record) (file list : List Located) (text : List ℕ)
    → styles ≡ f.styles → records ≡ records_of f (judged_branch request) → text ≡ text_asked request → file ≡ list
    → rows ≡ records_in_file styles file → added ≡ new_in records rows
    → said ≡ failure_said styles records source text (line_of file rows) added failure
    → said ≡ told_failure f request source list failure
failure_told f request source failure said styles records rows added file list text s r t l made fresh is =
    let say = λ (ss : List Style) (rs : List Record) (bs : List ℕ) (line : Record → ℕ) (ns : List Record).
    failure_said ss rs source bs line ns failure in
    let held = records_of f (judged_branch request) in
    let same : rows ≡ records_in_file f.styles list =
    made ∙ ap (λ (ss : List Style). records_in_file ss file) s ∙ ap (records_in_file f.styles) l in
    is
    ∙ ap (λ (ss : List Style). say ss records text (line_of file rows) added) s
    ∙ ap (λ (ns : List Record). say f.styles records text (line_of file rows) ns) fresh
    ∙ ap (λ (rs : List Record). say f.styles rs text (line_of file rows) (new_in rs rows)) r
    ∙ ap (λ (bs : List ℕ). say f.styles held bs (line_of file rows) (new_in held rows)) t
    ∙ ap (λ (xs : List Located). say f.styles held (text_asked request) (line_of xs rows) (new_in held rows)) l
    ∙ ap (λ (rs : List Record). say f.styles held (text_asked request) (line_of list rs) (new_in held rs)) same
