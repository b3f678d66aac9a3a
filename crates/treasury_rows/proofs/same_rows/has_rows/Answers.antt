use Rattle.std.proofs.Common.{◌≡◌, ◌∙◌, List, true, false, ap, sym, map}
use Rattle.treasury_state.specs.declared.transfer.Transfer.{Transfer}
use Rattle.treasury_state.specs.Federation.{Federation}
use Rattle.treasury_state.specs.Rows.{transfer_row, part_rows, rows}
use Rattle.treasury_rows.proofs.SameRowLemmas.{says_no, Seen, legs_of_rows, claims_of_rows, all_rows}
use Rattle.treasury_rows.proofs.same_rows.has_rows.Goals as goal

pub returns-then-not-are_record_rows : goal.returns-then-not-are_record_rows
returns-then-not-are_record_rows c =
    let f = c.args.draft.now in
    let parts = c.args.parts.now in
    let styles = c.draft.inside.styles in
    let xs = c.items-branches.result.now in
    let ts = c.draft.inside.transfers in
    let seen : Seen f styles xs ts = record {
      styled = ap (λ (g : Federation). g.styles) c.draft.view_is;
      branched = c.items-branches.ensures ∙ ap (λ (g : Federation). g.branches) c.draft.view_is;
      sent = ap (λ (g : Federation). g.transfers) c.draft.view_is;
    } in
    says_no (rows f ≡ parts)
    (λ e. let k : true ≡ false = sym
    (c.are_record_rows.ensures.1 (legs_of_rows f parts styles xs ts seen e ∙ sym c.items-7.ensures)) ∙
    c.if-not-are_record_rows.true in cc)

pub returns : goal.returns
returns c =
    let f = c.args.draft.now in
    let parts = c.args.parts.now in
    let styles = c.draft.inside.styles in
    let xs = c.items-branches.result.now in
    let ts = c.draft.inside.transfers in
    let seen : Seen f styles xs ts = record {
      styled = ap (λ (g : Federation). g.styles) c.draft.view_is;
      branched = c.items-branches.ensures ∙ ap (λ (g : Federation). g.branches) c.draft.view_is;
      sent = ap (λ (g : Federation). g.transfers) c.draft.view_is;
    } in
    let units = c.are_unit_rows.ensures.0 c.if-not-are_unit_rows.false ∙ c.items.ensures in
    let branches = c.are_branch_rows.ensures.0 c.if-not-are_branch_rows.false ∙ c.items-2.ensures in
    let sent = ap (λ (us : List Transfer). map (transfer_row xs) us) (sym c.items-3.ensures) ∙
    (c.are_transfer_rows.ensures.0 c.if-not-are_transfer_rows.false ∙ c.items-4.ensures) in
    let received = ap part_rows (sym c.items-5.ensures) ∙
    (c.are_part_rows.ensures.0 c.if-not-are_part_rows.false ∙ c.items-6.ensures) in
    let legs = c.are_record_rows.ensures.0 c.if-not-are_record_rows.false ∙ c.items-7.ensures in (
      λ h. all_rows f parts styles xs ts seen units branches c.requires legs
          (c.are_record_rows-2.ensures.0 h ∙ c.items-8.ensures) sent received,
      λ e. c.are_record_rows-2.ensures.1 (claims_of_rows f parts styles xs ts seen e ∙ sym c.items-8.ensures),
    )
