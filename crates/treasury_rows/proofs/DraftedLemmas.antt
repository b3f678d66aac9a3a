-- a draft is the only good state with its rows
use Rattle.std.proofs.Common.{◌≡◌, ◌⊎◌, List, ap, ◌∙◌, sym, subst, inl, inr}
use Rattle.std.specs.List.{AllByRecursion}
use Rattle.money_core.specs.declared.cause.Cause.{Cause}
use Rattle.money_core.specs.declared.cause.Cause.TheVariants.{OutOfMemory, Damaged}
use Rattle.money_core.specs.declared.style.Style.{Style}
use Rattle.money_core.specs.Style.{AreStyles}
use Rattle.money_core.proofs.ListLemmas.{all_weaker}
use Rattle.treasury_state.specs.declared.rows.UnitRow.{UnitRow}
use Rattle.treasury_state.specs.declared.rows.BranchRow.{BranchRow}
use Rattle.treasury_state.specs.declared.rows.EntryRow.{EntryRow}
use Rattle.treasury_state.specs.declared.rows.TransferRow.{TransferRow}
use Rattle.treasury_state.specs.declared.rows.PartRow.{PartRow}
use Rattle.treasury_state.specs.declared.rows.Parts.{Parts}
use Rattle.treasury_state.specs.declared.transfer.Transfer.{Transfer}
use Rattle.treasury_state.specs.Federation.{Branch, Federation}
use Rattle.treasury_state.specs.Good.{IsGoodBranch, IsGoodState}
use Rattle.treasury_state.specs.Rows.{unit_rows, rows}
use Rattle.treasury_rows.specs.Drafted.{IsFault, IsKeepable}
use Rattle.treasury_rows.proofs.BranchRowLemmas.{HaveRows}
use Rattle.treasury_rows.proofs.TransferRowLemmas.{all_named}
use Rattle.treasury_rows.proofs.PartRowLemmas.{HaveRows as AreSent}

-- what the styles, branches and transfers of the rows are
abbrev pub OnlyStyles : Parts → List Style → Type 0
OnlyStyles parts styles = (ss : List Style) → AreStyles ss × (unit_rows ss ≡ parts.units) → ss ≡ styles

abbrev pub OnlyBranches : Parts → List Style → List Branch → Type 0
OnlyBranches parts styles bs = (xs : List Branch) → HaveRows styles parts.branches parts.entries xs → xs ≡ bs

abbrev pub OnlyTransfers : Parts → List Branch → List Transfer → Type 0
OnlyTransfers parts bs ts = (xs : List Transfer) → AreSent bs parts.transfers parts.receipts xs → xs ≡ ts

branches_keepable : (f : Federation) → IsGoodState f → AllByRecursion (IsKeepable f.styles) f.branches
branches_keepable f good = all_weaker (IsGoodBranch f.styles) (IsKeepable f.styles) f.branches
    (λ b h. record { short = h.short; records = h.records }) good.branches

pub state_styles : (parts : Parts) (f : Federation) → IsGoodState f → rows f ≡ parts
    → AreStyles f.styles × (unit_rows f.styles ≡ parts.units)
state_styles parts f good e = (good.styles, ap (λ (p : Parts). p.units) e)

pub state_branches : (parts : Parts) (styles : List Style) (f : Federation) → IsGoodState f → rows f ≡ parts
    → f.styles ≡ styles → HaveRows styles parts.branches parts.entries f.branches
state_branches parts styles f good e s =
    subst (λ (ss : List Style). HaveRows ss parts.branches parts.entries f.branches) s
    (branches_keepable f good, (ap (λ (p : Parts). p.branches) e, ap (λ (p : Parts). p.entries) e))

pub state_transfers : (parts : Parts) (bs : List Branch) (f : Federation) → IsGoodState f → rows f ≡ parts
    → f.branches ≡ bs → AreSent bs parts.transfers parts.receipts f.transfers
state_transfers parts bs f good e b =
    subst (λ (xs : List Branch). AreSent xs parts.transfers parts.receipts f.transfers) b
    (all_named f good, (good.ids, (ap (λ (p : Parts). p.transfers) e, ap (λ (p : Parts). p.receipts) e)))

pub drafted_only : (parts : Parts) (styles : List Style) (bs : List Branch) (ts : List Transfer)
    → OnlyStyles parts styles → OnlyBranches parts styles bs → OnlyTransfers parts bs ts
    → (f : Federation) → IsGoodState f → rows f ≡ parts → f ≡ record { styles = styles; branches = bs; transfers = ts }
drafted_only parts styles bs ts s b t f good e =
    let same = s f.styles (state_styles parts f good e) in
    let there = b f.branches (state_branches parts styles f good e same) in
    ap (λ (x : List Style). let y : Federation =
    record { styles = x; branches = f.branches; transfers = f.transfers } in y) same
    ∙ ap (λ (x : List Branch). let y : Federation =
    record { styles = styles; branches = x; transfers = f.transfers } in y) there
    ∙ ap (λ (x : List Transfer). let y : Federation = record { styles = styles; branches = bs; transfers = x } in y)
    (t f.transfers (state_transfers parts bs f good e there))

-- a fault of a part is one of the whole
abbrev pub IsDamage : Parts → Cause → Type 0
IsDamage parts e =
    (e ≡ OutOfMemory) ⊎ ((e ≡ Damaged) × ((f : Federation) → IsGoodState f → rows f ≡ parts → ⊥))

pub damage_of : {Y : Type 0} (parts : Parts) (Q : Y → Type 0) (e : Cause)
    → ((f : Federation) → IsGoodState f → rows f ≡ parts → (y : Y) × Q y) → IsFault Q e
    → IsDamage parts e
damage_of parts Q e k (inl h) = inl h
damage_of parts Q e k (inr h) = inr (h.0, λ f good same. let y = k f good same in h.1 y.0 y.1)

-- the lists of rows, as they are passed on
pub only_styles : (parts : Parts) (us : List UnitRow) (styles : List Style) → us ≡ parts.units
    → ((ss : List Style) → AreStyles ss × (unit_rows ss ≡ us) → ss ≡ styles) → OnlyStyles parts styles
only_styles parts us styles e h ss p = h ss (p.0, p.1 ∙ sym e)

pub only_branches : (parts : Parts) (rs : List BranchRow) (es : List EntryRow) (styles : List Style) (bs : List Branch)
    → rs ≡ parts.branches → es ≡ parts.entries
    → ((xs : List Branch) → HaveRows styles rs es xs → xs ≡ bs) → OnlyBranches parts styles bs
only_branches parts rs es styles bs e f h xs p = h xs (p.0, (p.1.0 ∙ sym e, p.1.1 ∙ sym f))

pub only_transfers : (parts : Parts) (rs : List TransferRow) (ps : List PartRow) (ys bs : List Branch)
    (ts : List Transfer) → ys ≡ bs → rs ≡ parts.transfers → ps ≡ parts.receipts
    → ((xs : List Transfer) → AreSent ys rs ps xs → xs ≡ ts) → OnlyTransfers parts bs ts
only_transfers parts rs ps ys bs ts e f g h xs p =
    h xs (subst (λ (zs : List Branch). AreSent zs rs ps xs) (sym e) (p.0, (p.1.0, (p.1.1.0 ∙ sym f, p.1.1.1 ∙ sym g))))

pub styles_damage : (parts : Parts) (us : List UnitRow) (e : Cause) → us ≡ parts.units
    → IsFault (λ (ss : List Style). AreStyles ss × (unit_rows ss ≡ us)) e → IsDamage parts e
styles_damage parts us e a fault =
    damage_of parts (λ (ss : List Style). AreStyles ss × (unit_rows ss ≡ us)) e
    (λ f good h. let p = state_styles parts f good h in (f.styles, (p.0, p.1 ∙ sym a))) fault

pub branches_damage : (parts : Parts) (rs : List BranchRow) (es : List EntryRow) (styles : List Style) (e : Cause)
    → rs ≡ parts.branches → es ≡ parts.entries → OnlyStyles parts styles
    → IsFault (HaveRows styles rs es) e → IsDamage parts e
branches_damage parts rs es styles e a b s fault =
    damage_of parts (HaveRows styles rs es) e
    (λ f good h.
    let p = state_branches parts styles f good h (s f.styles (state_styles parts f good h)) in
    (f.branches, (p.0, (p.1.0 ∙ sym a, p.1.1 ∙ sym b))))
    fault

pub transfers_damage : (parts : Parts) (rs : List TransferRow) (ps : List PartRow) (ys bs : List Branch)
    (styles : List Style) (e : Cause) → ys ≡ bs → rs ≡ parts.transfers → ps ≡ parts.receipts → OnlyStyles parts styles
    → OnlyBranches parts styles bs
    → IsFault (AreSent ys rs ps) e → IsDamage parts e
transfers_damage parts rs ps ys bs styles e a b c s t fault =
    damage_of parts (AreSent ys rs ps) e
    (λ f good h.
    let there = t f.branches (state_branches parts styles f good h (s f.styles (state_styles parts f good h))) in
    let p = state_transfers parts bs f good h there in (
      f.transfers,
      subst (λ (zs : List Branch). AreSent zs rs ps f.transfers) (sym a)
          (p.0, (p.1.0, (p.1.1.0 ∙ sym b, p.1.1.1 ∙ sym c))),
    ))
    fault
