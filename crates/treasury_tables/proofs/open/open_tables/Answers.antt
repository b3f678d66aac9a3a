-- In each branch: whether the name `receipt` is there, what the row is, and so which version the tables are.
use Rattle.std.proofs.Common.{◌≡◌, ◌∙◌, ◌∷◌, [], inl, inr, pos, map, true, false, sym, subst, rules, refl, true≢false}
use Rattle.std.proofs.Common.{arith}
use Rattle.sqlite.specs.declared.types.Value.TheVariants.{Int}
use Rattle.sqlite.specs.Order.{column}
use Rattle.sqlite.specs.Held.{state}
use Rattle.treasury_tables.specs.Kept.{IsFaithful}
use Rattle.treasury_tables.specs.Creating.{has_all, has_receipt}
use Rattle.treasury_tables.specs.Opening.{AreOursAlone, IsFirstVersion}
use Rattle.treasury_tables.proofs.OpenLemmas.{none_there, not_first, not_second, receipt_is_there, shown_versions}
use Rattle.treasury_tables.proofs.UpgradeLemmas.{no_upgrade, then_upgrade}
use Rattle.treasury_tables.proofs.open.open_tables.Goals as goal

-- a name is missing
pub returns-then-not-has_all-clause-there : goal.returns-then-not-has_all-clause-there
returns-then-not-has_all-clause-there g c clean ours =
    let none : has_all c.args.conn.now.schema ≡ false = search rules in
    (λ no. absurd (true≢false (sym no)), λ is. absurd (none_there (state g.S.Store c.args.conn.now).now none is))

pub returns-then-not-has_all-clause-first : goal.returns-then-not-has_all-clause-first
returns-then-not-has_all-clause-first g c clean is =
    let none : has_all c.args.conn.now.schema ≡ false = search rules in
    absurd (none_there (state g.S.Store c.args.conn.now).now none (inl is.0))

-- the query fails
pub returns-in_err-rows-clause-crash : goal.returns-in_err-rows-clause-crash
returns-in_err-rows-clause-crash g c =
    no_upgrade (state g.S.Store c.args.conn.now) (state g.S.Store c.format_rows.new.conn) c.format_rows.ensures.crash

-- `receipt` is there
pub returns-then-has_receipt-clause-there : goal.returns-then-has_receipt-clause-there
returns-then-has_receipt-clause-there g c clean ours =
    let all : has_all c.args.conn.now.schema ≡ true = search rules in
    let got : c.has_table-has_receipt.result ≡ true = search rules in
    let more : has_receipt c.args.conn.now.schema ≡ true =
    receipt_is_there _ c.args.conn.now.schema _ c.has_table-has_receipt.ensures c.as_slice.ensures ∙ got in
    let has = ours.second all more in
    let same = shown_versions ((state g.S.Store c.args.conn.now).now.trees 0) _ (Int (pos 2))
    (c.in_ok-rows.ensures.rows clean (inr has)) in (
      λ there. inr (record {
        schema = has;
        version = same.0
            (subst (λ items. map (λ r. column r 0) items ≡ Int (pos 2) ∷ []) c.deref.ensures.value
            (c.is_version.ensures.0 there));
      }),
      λ is. elim is [
        | inl first ↦ absurd (not_first (state g.S.Store c.args.conn.now).now more first)
        | inr second ↦ c.is_version.ensures.1
            (subst (λ items. map (λ r. column r 0) items ≡ Int (pos 2) ∷ []) (sym c.deref.ensures.value)
            (same.1 second.version))
      ],
    )

pub returns-then-has_receipt-clause-first : goal.returns-then-has_receipt-clause-first
returns-then-has_receipt-clause-first g c clean is =
    let got : c.has_table-has_receipt.result ≡ true = search rules in
    let more : has_receipt c.args.conn.now.schema ≡ true =
    receipt_is_there _ c.args.conn.now.schema _ c.has_table-has_receipt.ensures c.as_slice.ensures ∙ got in
    absurd (not_first (state g.S.Store c.args.conn.now).now more is.0)

pub returns-then-has_receipt-clause-crash : goal.returns-then-has_receipt-clause-crash
returns-then-has_receipt-clause-crash g c =
    no_upgrade (state g.S.Store c.args.conn.now) (state g.S.Store c.format_rows.new.conn) c.format_rows.ensures.crash

-- it is not, and the row is no 1
pub returns-then-not-is_version-clause-there : goal.returns-then-not-is_version-clause-there
returns-then-not-is_version-clause-there g c clean ours =
    let all : has_all c.args.conn.now.schema ≡ true = search rules in
    let got : c.has_table-has_receipt.result ≡ false = search rules in
    let none : c.is_version-2.result ≡ false = search rules in
    let bare : has_receipt c.args.conn.now.schema ≡ false =
    receipt_is_there _ c.args.conn.now.schema _ c.has_table-has_receipt.ensures c.as_slice.ensures ∙ got in
    let has = ours.first all bare in
    let same = shown_versions ((state g.S.Store c.args.conn.now).now.trees 0) _ (Int (pos 1))
    (c.in_ok-rows.ensures.rows clean (inl has)) in (
      λ no. absurd (true≢false (sym no)),
      λ is. elim is [
        | inl first ↦ absurd (true≢false
            (sym (c.is_version-2.ensures.1
            (subst (λ items. map (λ r. column r 0) items ≡ Int (pos 1) ∷ []) (sym c.deref-2.ensures.value)
            (same.1 first.version))) ∙ none))
        | inr second ↦ absurd (not_second (state g.S.Store c.args.conn.now).now bare second)
      ],
    )

pub returns-then-not-is_version-clause-first : goal.returns-then-not-is_version-clause-first
returns-then-not-is_version-clause-first g c clean is =
    let none : c.is_version-2.result ≡ false = search rules in
    let same = shown_versions ((state g.S.Store c.args.conn.now).now.trees 0) _ (Int (pos 1))
    (c.in_ok-rows.ensures.rows clean (inl is.0.schema)) in
    absurd (true≢false (sym (c.is_version-2.ensures.1
    (subst (λ items. map (λ r. column r 0) items ≡ Int (pos 1) ∷ []) (sym c.deref-2.ensures.value)
    (same.1 is.0.version))) ∙ none))

pub returns-then-not-is_version-clause-crash : goal.returns-then-not-is_version-clause-crash
returns-then-not-is_version-clause-crash g c =
    no_upgrade (state g.S.Store c.args.conn.now) (state g.S.Store c.format_rows.new.conn) c.format_rows.ensures.crash

-- version 1
pub returns-in_err-upgrade-clause-crash : goal.returns-in_err-upgrade-clause-crash
returns-in_err-upgrade-clause-crash g c =
    let all : has_all c.args.conn.now.schema ≡ true = search rules in
    let got : c.has_table-has_receipt.result ≡ false = search rules in
    let one : c.is_version-2.result ≡ true = search rules in
    let bare : has_receipt c.args.conn.now.schema ≡ false =
    receipt_is_there _ c.args.conn.now.schema _ c.has_table-has_receipt.ensures c.as_slice.ensures ∙ got in
    let is_first = λ (clean : IsFaithful g.S.Store c.format_rows.new.conn)
    (ours : AreOursAlone (state g.S.Store c.args.conn.now).now.schema).
    let has = ours.first all bare in
    let same = shown_versions ((state g.S.Store c.args.conn.now).now.trees 0) _ (Int (pos 1))
    (c.in_ok-rows.ensures.rows clean (inl has)) in
    let first : IsFirstVersion (state g.S.Store c.args.conn.now).now =
    record {
      schema = has;
      version = same.0
          (subst (λ items. map (λ r. column r 0) items ≡ Int (pos 1) ∷ []) c.deref-2.ensures.value
          (c.is_version-2.ensures.0 one));
    } in first in
    then_upgrade (state g.S.Store c.args.conn.now) (state g.S.Store c.format_rows.new.conn)
    (state g.S.Store c.upgrade.new.conn) is_first c.format_rows.ensures.crash c.in_ok-rows.ensures.same
    c.upgrade.ensures.crash

pub returns-in_err-upgrade-clause-clean : goal.returns-in_err-upgrade-clause-clean
returns-in_err-upgrade-clause-clean g c =
    omega (arith, c.format_rows.ensures.crash.clean, c.upgrade.ensures.crash.clean)

pub returns-clause-clean : goal.returns-clause-clean
returns-clause-clean g c = omega (arith, c.format_rows.ensures.crash.clean, c.upgrade.ensures.crash.clean)

pub returns-clause-crash : goal.returns-clause-crash
returns-clause-crash g c =
    let all : has_all c.args.conn.now.schema ≡ true = search rules in
    let got : c.has_table-has_receipt.result ≡ false = search rules in
    let one : c.is_version-2.result ≡ true = search rules in
    let bare : has_receipt c.args.conn.now.schema ≡ false =
    receipt_is_there _ c.args.conn.now.schema _ c.has_table-has_receipt.ensures c.as_slice.ensures ∙ got in
    let is_first = λ (clean : IsFaithful g.S.Store c.format_rows.new.conn)
    (ours : AreOursAlone (state g.S.Store c.args.conn.now).now.schema).
    let has = ours.first all bare in
    let same = shown_versions ((state g.S.Store c.args.conn.now).now.trees 0) _ (Int (pos 1))
    (c.in_ok-rows.ensures.rows clean (inl has)) in
    let first : IsFirstVersion (state g.S.Store c.args.conn.now).now =
    record {
      schema = has;
      version = same.0
          (subst (λ items. map (λ r. column r 0) items ≡ Int (pos 1) ∷ []) c.deref-2.ensures.value
          (c.is_version-2.ensures.0 one));
    } in first in
    then_upgrade (state g.S.Store c.args.conn.now) (state g.S.Store c.format_rows.new.conn)
    (state g.S.Store c.upgrade.new.conn) is_first c.format_rows.ensures.crash c.in_ok-rows.ensures.same
    c.upgrade.ensures.crash

pub returns-clause-there : goal.returns-clause-there
returns-clause-there g c clean ours =
    let all : has_all c.args.conn.now.schema ≡ true = search rules in
    let got : c.has_table-has_receipt.result ≡ false = search rules in
    let one : c.is_version-2.result ≡ true = search rules in
    let bare : has_receipt c.args.conn.now.schema ≡ false =
    receipt_is_there _ c.args.conn.now.schema _ c.has_table-has_receipt.ensures c.as_slice.ensures ∙ got in
    let has = ours.first all bare in
    let clean_mid : IsFaithful g.S.Store c.format_rows.new.conn =
    omega (arith, c.upgrade.ensures.crash.clean, clean) in
    let same = shown_versions ((state g.S.Store c.args.conn.now).now.trees 0) _ (Int (pos 1))
    (c.in_ok-rows.ensures.rows clean_mid (inl has)) in (
      λ there. inl (record {
        schema = has;
        version = same.0
            (subst (λ items. map (λ r. column r 0) items ≡ Int (pos 1) ∷ []) c.deref-2.ensures.value
            (c.is_version-2.ensures.0 one));
      }),
      λ is. refl,
    )

pub returns-clause-same : goal.returns-clause-same
returns-clause-same g c clean ours never =
    let all : has_all c.args.conn.now.schema ≡ true = search rules in
    let got : c.has_table-has_receipt.result ≡ false = search rules in
    let one : c.is_version-2.result ≡ true = search rules in
    let bare : has_receipt c.args.conn.now.schema ≡ false =
    receipt_is_there _ c.args.conn.now.schema _ c.has_table-has_receipt.ensures c.as_slice.ensures ∙ got in
    let has = ours.first all bare in
    let clean_mid : IsFaithful g.S.Store c.format_rows.new.conn =
    omega (arith, c.upgrade.ensures.crash.clean, clean) in
    let same = shown_versions ((state g.S.Store c.args.conn.now).now.trees 0) _ (Int (pos 1))
    (c.in_ok-rows.ensures.rows clean_mid (inl has)) in
    absurd (never (record {
      schema = has;
      version = same.0
          (subst (λ items. map (λ r. column r 0) items ≡ Int (pos 1) ∷ []) c.deref-2.ensures.value
          (c.is_version-2.ensures.0 one));
    }))

pub returns-then-has_receipt-clause-opened : goal.returns-then-has_receipt-clause-opened
returns-then-has_receipt-clause-opened g c clean there = (c.in_ok-rows.ensures.same clean).0.is_open
