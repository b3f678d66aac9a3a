-- what a dispatch and a receipt are answered, case by case
use Rattle.std.proofs.Common.{◌≡◌, ◌⊎◌, ◌≤◌, ◌≤ℤ◌, pos, ℕ, Bool, true, false, ◌&&◌, cond, List, [], ◌∷◌, refl, ap, ◌∙◌}
use Rattle.std.proofs.Common.{sym, subst, inl, inr, arith, Option, Some, None, Ok, Err}
use Rattle.std.specs.Prelude.{Result, IfOk, IfErr, IfSome, OnOk, MatchResult, find, unsigned_abs, not, if◌then◌else◌}
use Rattle.std.specs.Option.{option_map, option_or}
use Rattle.std.specs.Ordering.{int_eq}
use Rattle.std.specs.List.{list_any}
use Rattle.std.proofs.lemmas.List.Folds.{find-append}
use Rattle.std.specs.Str.{bytes_eq}
use Rattle.std.proofs.lemmas.Int.{ints}
use Rattle.std.proofs.lemmas.Bool.{or_parts}
use Rattle.money_core.specs.declared.style.Style.{Style}
use Rattle.money_core.specs.AmountText.{IsDeclared}
use Rattle.money_core.specs.declared.cause.Cause.TheVariants.{OutOfMemory, UnknownBranch, SameBranch, BadId, MarkClash}
use Rattle.money_core.specs.declared.cause.Cause.TheVariants.{UnknownTransfer, WrongBranch, AlreadyReceived}
use Rattle.money_core.specs.Amount.{limit}
use Rattle.money_core.proofs.BytesLemmas.{other_bytes}
use Rattle.money_core.proofs.TestLemmas.{le_from_int_le}
use Rattle.book_core.specs.declared.refusal.Refusal.{Refusal}
use Rattle.book_core.specs.declared.refusal.Refusal.TheVariants.{Plain}
use Rattle.treasury_state.specs.declared.transfer.Part.{Part}
use Rattle.treasury_state.specs.declared.transfer.Receipt.{Receipt}
use Rattle.treasury_state.specs.declared.transfer.Transfer.{Transfer}
use Rattle.treasury_state.specs.declared.delta.Addition.{Addition}
use Rattle.treasury_state.specs.declared.delta.Addition.TheVariants as add
use Rattle.treasury_state.specs.Federation.{Branch, Federation, has_branch}
use Rattle.treasury_state.specs.Transfer.{is_id, all_key, is_all, is_key, rest_part, of_rest, receipts_of, has_id}
use Rattle.treasury_state.specs.Transfer.{dispatch_record, receipt_record, transfer_at}
use Rattle.treasury_state.specs.Good.{HasGoodParts, IsGoodTransfer, IsGoodState}
use Rattle.treasury_state.proofs.FindLemmas.{IsThere}
use Rattle.treasury_state.proofs.MarkLemmas.{not_all, none_all}
use Rattle.treasury_state.proofs.PartLemmas.{small_from}
use Rattle.treasury_state.proofs.FoundLemmas.{found_transfer}
use Rattle.treasury_state.proofs.NotLemmas.{transfer_small}
use Rattle.treasury_core.specs.declared.command.Answer.{Answer}
use Rattle.treasury_core.specs.declared.command.Answer.TheVariants.{Done, Repeated}
use Rattle.treasury_core.specs.declared.command.AskedPart.{AskedPart}
use Rattle.treasury_core.specs.declared.command.Dispatch.{Dispatch}
use Rattle.treasury_core.specs.declared.command.Receive.{Receive}
use Rattle.treasury_core.specs.declared.command.Command.{Command}
use Rattle.treasury_core.specs.declared.command.Command.TheVariants as cmd
use Rattle.treasury_core.specs.Step.{unless, transfer_of, is_dispatched_so, dispatch_refusal, key_of, qty_of}
use Rattle.treasury_core.specs.Step.{receipt_of, has_key, is_amount_so, is_received_so, has_bad_key, has_nothing_left}
use Rattle.treasury_core.specs.Step.{receipt_refusal, held_reply, receipt_reply, reply, added, delta, Decides}
use Rattle.treasury_core.specs.Fits.{IsReceive}
use Rattle.treasury_core.proofs.TransferLemmas.{left_low, left_high}
use Rattle.treasury_core.proofs.ChoiceLemmas.{true_from_not_false}

-- what was tested of equal texts, and looked up
pub same_test : {x y a b : List ℕ} {t : Bool} → x ≡ a → y ≡ b → bytes_eq x y ≡ t → bytes_eq a b ≡ t
same_test {x} {y} {a} {b} {t} e f h = ap (λ (z : List ℕ). bytes_eq z b) (sym e) ∙ (ap (bytes_eq x) (sym f) ∙ h)

pub same_find : {id other : List ℕ} {ts us : List Transfer} {o : Option Transfer} → id ≡ other → ts ≡ us
    → find (has_id other) us ≡ o → find (has_id id) ts ≡ o
same_find {id} {other} {ts} {us} {o} e f h =
    ap (λ (x : List ℕ). find (has_id x) ts) e ∙ (ap (find (has_id other)) f ∙ h)

-- what is done already
pub decides_repeated : (f : Federation) (c : Command) (r : Result (Answer × List Addition) Refusal)
    → reply f c ≡ Ok Repeated → r ≡ Ok (Repeated, []) → Decides f c r
decides_repeated f c r told h = subst (Decides f c) (sym h) (told, refl)

-- what is done, or its refusal
pub decides_done_or_refused : (f : Federation) (c : Command) (adds : List Addition) (o : Option Refusal)
    (found : Result (List Addition) Refusal) (r : Result (Answer × List Addition) Refusal)
    → reply f c ≡ unless Done o → added f c ≡ adds
    → MatchResult r (λ p. (p.0 ≡ Done) × (found ≡ Ok p.1)) (λ e. found ≡ Err e)
    → IfOk found (λ x. x ≡ adds) → OnOk found (o ≡ None) → IfErr found (λ e. (e ≡ Plain OutOfMemory) ⊎ (o ≡ Some e))
    → Decides f c r
decides_done_or_refused f c adds o found (Ok p) told adds_ m value passes err =
    let same : p.1 ≡ adds = subst (λ (x : Result (List Addition) Refusal). IfOk x (λ y. y ≡ adds)) m.1 value in
    let none : o ≡ None = subst (λ (x : Result (List Addition) Refusal). OnOk x (o ≡ None)) m.1 passes in (
      told ∙ ap (unless Done) none ∙ ap (λ (a : Answer). let x : Result Answer Refusal = Ok a in x) (sym m.0),
      same ∙ (sym adds_ ∙ ap (λ (a : Answer). delta f c (Ok a)) (sym m.0)),
    )
decides_done_or_refused f c adds o found (Err e) told adds_ m value passes err =
    by_case (subst (λ (x : Result (List Addition) Refusal). IfErr x (λ y. (y ≡ Plain OutOfMemory) ⊎ (o ≡ Some y))) m
    err)
  where
    by_case : (e ≡ Plain OutOfMemory) ⊎ (o ≡ Some e) → (e ≡ Plain OutOfMemory) ⊎ (reply f c ≡ Err e)
    by_case (inl h) = inl h
    by_case (inr h) = inr (told ∙ ap (unless Done) h)

-- ---- dispatches

pub no_source : (f : Federation) (d : Dispatch) → has_branch f d.source ≡ false
    → reply f (cmd.Dispatch d) ≡ Err (Plain UnknownBranch)
unfolding reply
no_source f d s = rw s refl

pub no_target : (f : Federation) (d : Dispatch) → has_branch f d.source ≡ true → has_branch f d.target ≡ false
    → reply f (cmd.Dispatch d) ≡ Err (Plain UnknownBranch)
unfolding reply
no_target f d s t = rw (s, t) refl

pub same_branch : (f : Federation) (d : Dispatch) → has_branch f d.source ≡ true → has_branch f d.target ≡ true
    → bytes_eq d.source d.target ≡ true → reply f (cmd.Dispatch d) ≡ Err (Plain SameBranch)
unfolding reply
same_branch f d s t a = rw (s, t, a) refl

pub bad_id : (f : Federation) (d : Dispatch) → has_branch f d.source ≡ true → has_branch f d.target ≡ true
    → bytes_eq d.source d.target ≡ false → is_id d.id ≡ false → reply f (cmd.Dispatch d) ≡ Err (Plain BadId)
unfolding reply
bad_id f d s t a i = rw (s, t, a, i) refl

-- a dispatch whose branches and ID are as they have to be
pub record IsAsked (f : Federation) (d : Dispatch) : Type 0 where
  pub source : has_branch f d.source ≡ true
  pub target : has_branch f d.target ≡ true
  pub apart : bytes_eq d.source d.target ≡ false
  pub id : is_id d.id ≡ true

pub dispatched_so : (f : Federation) (d : Dispatch) (t : Transfer) → IsAsked f d → transfer_at f d.id ≡ Some t
    → is_dispatched_so d (Some t) ≡ true → reply f (cmd.Dispatch d) ≡ Ok Repeated
unfolding reply
dispatched_so f d t h at so = rw (h.source, h.target, h.apart, h.id, at, so) refl

pub dispatched_other : (f : Federation) (d : Dispatch) (t : Transfer) → IsAsked f d → transfer_at f d.id ≡ Some t
    → is_dispatched_so d (Some t) ≡ false → reply f (cmd.Dispatch d) ≡ Err (Plain MarkClash)
unfolding reply
dispatched_other f d t h at so = rw (h.source, h.target, h.apart, h.id, at, so) refl

pub dispatched_new : (f : Federation) (d : Dispatch) (b : Branch) → IsAsked f d → transfer_at f d.id ≡ None
    → IsThere f.branches d.source b
    → reply f (cmd.Dispatch d) ≡ unless Done (dispatch_refusal b.locked b.records d)
unfolding reply
dispatched_new f d b h at there = rw (h.source, h.target, h.apart, h.id, at, there.records, there.lock) refl

pub dispatch_adds : (f : Federation) (d : Dispatch)
    → added f (cmd.Dispatch d)
    ≡ add.Record d.source (dispatch_record (transfer_of d)) ∷ add.Dispatched (transfer_of d) ∷ []
unfolding added
dispatch_adds f d = refl

-- ---- receipts

pub no_branch : (f : Federation) (r : Receive) → has_branch f r.branch ≡ false
    → reply f (cmd.Receive r) ≡ Err (Plain UnknownBranch)
unfolding reply
no_branch f r b = rw b refl

pub bad_receipt_id : (f : Federation) (r : Receive) → has_branch f r.branch ≡ true → is_id r.id ≡ false
    → reply f (cmd.Receive r) ≡ Err (Plain BadId)
unfolding reply
bad_receipt_id f r b i = rw (b, i) refl

pub bad_key : (f : Federation) (r : Receive) → has_branch f r.branch ≡ true → is_id r.id ≡ true
    → has_bad_key r.part ≡ true → reply f (cmd.Receive r) ≡ Err (Plain BadId)
unfolding reply
bad_key f r b i k = rw (b, i, k) refl

-- a receipt whose branch, ID and key are as they have to be
pub record IsClaimed (f : Federation) (r : Receive) : Type 0 where
  pub branch : has_branch f r.branch ≡ true
  pub id : is_id r.id ≡ true
  pub key : has_bad_key r.part ≡ false

reply_claimed : (f : Federation) (r : Receive) (o : Option Transfer) → IsClaimed f r → transfer_at f r.id ≡ o
    → reply f (cmd.Receive r) ≡ receipt_reply f r o
unfolding reply
reply_claimed f r o h at = rw (h.branch, h.id, h.key, at) refl

pub no_transfer : (f : Federation) (r : Receive) → IsClaimed f r → transfer_at f r.id ≡ None
    → reply f (cmd.Receive r) ≡ Err (Plain UnknownTransfer)
no_transfer f r h at = reply_claimed f r None h at

pub wrong_branch : (f : Federation) (r : Receive) (t : Transfer) → IsClaimed f r → transfer_at f r.id ≡ Some t
    → bytes_eq t.target r.branch ≡ false → reply f (cmd.Receive r) ≡ Err (Plain WrongBranch)
wrong_branch f r t h at other = reply_claimed f r (Some t) h at ∙ rw other refl

-- whether the receipt of a key is what is asked for, if it has one
abbrev pub so_held : Transfer → Receive → Option Bool
so_held t r = option_map (is_received_so t r) (find (has_key (key_of r.part)) (receipts_of t))

none_by_any : {X : Type 0} (p : X → Bool) (xs : List X) → list_any p xs ≡ false → find p xs ≡ None
none_by_any p [] e = refl
none_by_any p (x ∷ xs) e =
    let n = or_parts (p x) (list_any p xs) e in
    ap (λ (b : Bool). cond b (Some x) (find p xs)) n.0 ∙ none_by_any p xs n.1

and_true : (b : Bool) → (b && true) ≡ b
and_true true = refl
and_true false = refl

-- without a part it is that of the rest
so_all : (t : Transfer) (r : Receive) (o : Option Receipt) → HasGoodParts t → r.part ≡ None → t.receipt ≡ o
    → so_held t r ≡ option_map (is_received_so t r) (find (has_key all_key) (of_rest t o))
so_all t r o good whole is =
    ap (λ (x : Option AskedPart). option_map (is_received_so t r) (find (has_key (key_of x)) (receipts_of t))) whole
    ∙ ap (option_map (is_received_so t r))
    (find-append (has_key all_key) t.parts (of_rest t t.receipt)
    ∙ (ap (λ (x : Option Part). option_or x (find (has_key all_key) (of_rest t t.receipt)))
    (none_by_any (has_key all_key) t.parts (none_all t.parts good.keys))
    ∙ ap (λ (x : Option Receipt). find (has_key all_key) (of_rest t x)) is))

pub so_rest_none : (t : Transfer) (r : Receive) → HasGoodParts t → r.part ≡ None → t.receipt ≡ None → so_held t r ≡ None
so_rest_none t r good whole is = so_all t r None good whole is

pub so_rest_some : (t : Transfer) (r : Receive) (x : Receipt) → HasGoodParts t → r.part ≡ None → t.receipt ≡ Some x
    → so_held t r ≡ Some (int_eq x.day.0 r.day.0 && bytes_eq x.payee r.account)
so_rest_some t r x good whole is =
    so_all t r (Some x) good whole is
    ∙ ap (λ (b : Bool). let o : Option Bool = Some b in o)
    (ap (λ (o : Option AskedPart). (int_eq x.day.0 r.day.0 && bytes_eq x.payee r.account)
    && is_amount_so t (rest_part t x) o) whole ∙ and_true (int_eq x.day.0 r.day.0 && bytes_eq x.payee r.account))

-- with one it is among the parts
no_rest_key : (t : Transfer) (key : List ℕ) (o : Option Receipt) → is_all key ≡ false
    → find (has_key key) (of_rest t o) ≡ None
no_rest_key t key None e = refl
no_rest_key t key (Some x) e = ap (λ (b : Bool). cond b (Some (rest_part t x)) None) (other_bytes key all_key e)

or_none : (o : Option Part) → option_or o None ≡ o
or_none None = refl
or_none (Some p) = refl

pub so_part : (t : Transfer) (r : Receive) (a : AskedPart) → r.part ≡ Some a → has_bad_key r.part ≡ false
    → so_held t r ≡ option_map (is_received_so t r) (find (has_key a.key) t.parts)
so_part t r a is fits =
    let key : is_key a.key ≡ true = true_from_not_false (is_key a.key) (ap has_bad_key (sym is) ∙ fits) in
    ap (λ (x : Option AskedPart). option_map (is_received_so t r) (find (has_key (key_of x)) (receipts_of t))) is
    ∙ ap (option_map (is_received_so t r))
    (find-append (has_key a.key) t.parts (of_rest t t.receipt)
    ∙ (ap (option_or (find (has_key a.key) t.parts)) (no_rest_key t a.key t.receipt (not_all a.key key)) ∙ or_none
    (find (has_key a.key) t.parts)))

-- a claimed transfer of the branch
pub record IsAimed (f : Federation) (r : Receive) (t : Transfer) : Type 0 where
  pub claimed : IsClaimed f r
  pub at : transfer_at f r.id ≡ Some t
  pub own : bytes_eq t.target r.branch ≡ true

reply_aimed : (f : Federation) (r : Receive) (t : Transfer) → IsAimed f r t
    → reply f (cmd.Receive r) ≡ held_reply f t r (find (has_key (key_of r.part)) (receipts_of t))
reply_aimed f r t h = reply_claimed f r (Some t) h.claimed h.at ∙ rw h.own refl

held_at : (f : Federation) (t : Transfer) (r : Receive) (o : Option Part) (b : Bool)
    → option_map (is_received_so t r) o ≡ Some b
    → held_reply f t r o ≡ (if b then Ok Repeated else Err (Plain AlreadyReceived))
held_at f t r None b e = absurd cc
held_at f t r (Some p) b e =
    let same : is_received_so t r p ≡ b = cc in
    ap (λ (c : Bool). if c then Ok Repeated else Err (Plain AlreadyReceived)) same

none_at : (t : Transfer) (r : Receive) (o : Option Part) → option_map (is_received_so t r) o ≡ None → o ≡ None
none_at t r None e = refl
none_at t r (Some p) e = absurd cc

pub received_so : (f : Federation) (r : Receive) (t : Transfer) → IsAimed f r t → so_held t r ≡ Some true
    → reply f (cmd.Receive r) ≡ Ok Repeated
received_so f r t h so = reply_aimed f r t h ∙ held_at f t r (find (has_key (key_of r.part)) (receipts_of t)) true so

pub received_other : (f : Federation) (r : Receive) (t : Transfer) → IsAimed f r t → so_held t r ≡ Some false
    → reply f (cmd.Receive r) ≡ Err (Plain AlreadyReceived)
received_other f r t h so =
    reply_aimed f r t h ∙ held_at f t r (find (has_key (key_of r.part)) (receipts_of t)) false so

-- the reply where the key has no receipt
reply_unheld : (f : Federation) (r : Receive) (t : Transfer) → IsAimed f r t → so_held t r ≡ None
    → reply f (cmd.Receive r) ≡ held_reply f t r None
reply_unheld f r t h none =
    reply_aimed f r t h ∙ ap (held_reply f t r) (none_at t r (find (has_key (key_of r.part)) (receipts_of t)) none)

pub received_all : (f : Federation) (r : Receive) (t : Transfer) → IsAimed f r t → so_held t r ≡ None
    → has_nothing_left t r.part ≡ true → reply f (cmd.Receive r) ≡ Err (Plain AlreadyReceived)
received_all f r t h none nothing = reply_unheld f r t h none ∙ rw nothing refl

pub received_new : (f : Federation) (r : Receive) (t : Transfer) (b : Branch) → IsAimed f r t → so_held t r ≡ None
    → has_nothing_left t r.part ≡ false → IsThere f.branches r.branch b
    → reply f (cmd.Receive r) ≡ unless Done (receipt_refusal b.locked b.records t r)
received_new f r t b h none some there = reply_unheld f r t h none ∙ rw (some, there.records, there.lock) refl

pub receipt_adds : (f : Federation) (r : Receive) (t : Transfer) → transfer_at f r.id ≡ Some t
    → added f (cmd.Receive r)
    ≡ add.Record r.branch (receipt_record t (receipt_of t r)) ∷ add.Received r.id (receipt_of t r) ∷ []
unfolding added
receipt_adds f r t at = rw at refl

pub transfer_good : (f : Federation) (id : List ℕ) (t : Transfer) → IsGoodState f → transfer_at f id ≡ Some t
    → IsGoodTransfer f.branches t
transfer_good f id t good at = (found_transfer (IsGoodTransfer f.branches) id f.transfers t at good.transfers).0

-- and so is what is asked of it
small_at : (styles : List Style) (t : Transfer) (o : Option AskedPart)
    → IfSome o (λ (a : AskedPart). IsDeclared styles a.unit a.qty) → HasGoodParts t → pos 0 ≤ℤ t.qty
    → unsigned_abs t.qty ≤ limit → unsigned_abs (qty_of t o) ≤ limit
small_at styles t None fits good low small =
    small_from (qty_of t None) t.qty (left_low t good) (left_high t good low) small
small_at styles t (Some a) fits good low small = fits.size

pub asked_small : (f : Federation) (r : Receive) (t : Transfer) → IsGoodState f → IsReceive f.styles r
    → transfer_at f r.id ≡ Some t → unsigned_abs (qty_of t r.part) ≤ limit
asked_small f r t good fits at =
    let fair = transfer_good f r.id t good at in
    let amount = le_from_int_le (pos 1) t.qty fair.positive in
    small_at f.styles t r.part fits.part fair.parts (omega (arith, ints)) (transfer_small f r.id t good at)
