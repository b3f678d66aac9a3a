-- What a line asks for was read, so that its command fits: a style that a sample has, a day of the years 1 to 9999,
-- transactions that can be printed.
use Rattle.std.proofs.Common.{◌≡◌, ℕ, ℤ, List, Bool, true, false, Option, Some, None, Result, Ok, Err, arith, refl, sym}
use Rattle.std.proofs.Common.{subst, inl, inr, option_map}
use Rattle.money_core.specs.declared.day.Day.{Day}
use Rattle.money_core.specs.declared.style.Style.{Style}
use Rattle.money_core.specs.Style.{is_style}
use Rattle.money_core.specs.Sampling.{style_of}
use Rattle.money_core.specs.declared.unit.Unit.{Unit}
use Rattle.money_core.specs.declared.cause.Cause.{Cause}
use Rattle.money_core.specs.Reading.{amount}
use Rattle.money_core.proofs.AmountPrint.{amounts_bound}
use Rattle.money_core.proofs.SampleLemmas.{style_spelled}
use Rattle.money_core.proofs.StyleSamples.{is_style_iff}
use Rattle.journal_lines.specs.Date.{IsDayNumber}
use Rattle.journal_format.specs.declared.txn.Located.{Located}
use Rattle.journal_format.specs.Pieces.{Reads}
use Rattle.journal_format.proofs.ReadLemmas.{read_printable}
use Rattle.treasury_core.specs.declared.command.Command.{Command as AnyCommand}
use Rattle.treasury_core.specs.declared.command.Command.TheVariants as cmd
use Rattle.treasury_core.specs.Fits.{IsFile, Fits}
use Rattle.treasury_requests.specs.declared.request.Request.{Request}
use Rattle.treasury_state.specs.Federation.{Federation}
use Rattle.treasury_requests.specs.declared.request.Request.TheVariants.{Branch as ForBranch, Commodity as ForCommodity}
use Rattle.treasury_requests.specs.declared.request.Request.TheVariants.{Import as ForImport, Dispatch as ForDispatch}
use Rattle.treasury_requests.specs.declared.request.Request.TheVariants.{Receive as ForReceive, Lock as ForLock}
use Rattle.treasury_requests.specs.declared.request.Request.TheVariants.{Close as ForClose}
use Rattle.treasury_api.specs.declared.asking.Asked.TheVariants.{Command}
use Rattle.treasury_requests.specs.Request.{HasDayNumbers}
use Rattle.treasury_requests.proofs.DayLemmas.{spelled_days}
use Rattle.treasury_api.proofs.SpelledLemmas.{spelled_command}
use Rattle.treasury_api.specs.Asked.{asked_by_sample, asked_by_amount, asked_by_part, cut_list, RequestAsks, Asks}

sample_fits : (styles : List Style) (sample : List ℕ) (o : Option Style) (c : AnyCommand) → style_of sample ≡ o
    → asked_by_sample o ≡ Ok (Command c) → Fits styles c
sample_fits styles sample None c h e = absurd cc
sample_fits styles sample (Some style) c h e =
    let same : c ≡ cmd.Commodity style = cc in
    subst (Fits styles) (sym same) ((is_style_iff style (is_style style) refl).1 (sample, style_spelled sample style h))

pub file_fits : (styles : List Style) (text : List ℕ) (list : List Located) → Reads styles text list
    → IsFile styles list
file_fits styles text list reads =
    record { few = (let few = reads.have.few in omega (arith, few)); printable = read_printable styles text list reads }

amount_fits : (styles : List Style) (id from to text account : List ℕ) (day : Day) (r : Result (Unit × ℤ) Cause)
    (c : AnyCommand) → IsDayNumber day → amount styles text ≡ r
    → asked_by_amount id from to day account r ≡ Ok (Command c) → Fits styles c
amount_fits styles id from to text account day (Ok (unit, qty)) c days e h =
    let same : c ≡ cmd.Dispatch (record
    { id = id; source = from; target = to; day = day; unit = unit; qty = qty; account = account }) = cc in
    subst (Fits styles) (sym same) (record { day = days; amount = amounts_bound styles text unit qty e })
amount_fits styles id from to text account day (Err cause) c days e h = absurd cc

part_fits : (styles : List Style) (id name account key text : List ℕ) (day : Day) (r : Result (Unit × ℤ) Cause)
    (c : AnyCommand) → IsDayNumber day → amount styles text ≡ r
    → asked_by_part id name day account key r ≡ Ok (Command c) → Fits styles c
part_fits styles id name account key text day (Ok (unit, qty)) c days e h =
    let same : c ≡ cmd.Receive (record {
      id = id;
      branch = name;
      day = day;
      account = account;
      part = Some (record { key = key; unit = unit; qty = qty });
    }) = cc in
    subst (Fits styles) (sym same) (record { day = days; part = amounts_bound styles text unit qty e })
part_fits styles id name account key text day (Err cause) c days e h = absurd cc

pub request_fits : (styles : List Style) (request : Request) (c : AnyCommand) → HasDayNumbers request
    → RequestAsks styles request (Ok (Command c)) → Fits styles c
request_fits styles (ForBranch name) c days h = let same : c ≡ cmd.Branch name = cc in subst (Fits styles) (sym same) tt
request_fits styles (ForCommodity sample) c days h = sample_fits styles sample (style_of sample) c refl (sym h)
request_fits styles (ForImport name journal) c days (inl reads) =
    let e = reads.1.1 in
    let same : c ≡ cmd.Enter name reads.0 = cc in
    subst (Fits styles) (sym same) (file_fits styles journal reads.0 reads.1.0)
request_fits styles (ForImport name journal) c days (inr fault) = absurd (let e = fault.1.1 in cc)
request_fits styles (ForDispatch id from to day text account) c days h =
    amount_fits styles id from to text account day (amount styles text) c days refl (sym h)
request_fits styles (ForReceive id name day account None) c days h =
    let same : c ≡ cmd.Receive (record { id = id; branch = name; day = day; account = account; part = None }) = cc in
    subst (Fits styles) (sym same) (record { day = days; part = tt })
request_fits styles (ForReceive id name day account (Some part)) c days h =
    part_fits styles id name account part.key part.amount day (amount styles part.amount) c days refl (sym h)
request_fits styles (ForLock name day) c days h =
    let same : c ≡ cmd.Lock name day = cc in subst (Fits styles) (sym same) days
request_fits styles (ForClose name day accounts into) c days h =
    let same : c ≡ cmd.Close (record
    { branch = name; day = day; choice = record { accounts = option_map cut_list accounts; into = into } }) = cc in
    subst (Fits styles) (sym same) days
request_fits styles request c days h = absurd cc

pub asked_fits : (failed : Bool) (f : Federation) (line : List ℕ) (c : AnyCommand)
    → Asks failed f line (Ok (Command c)) → Fits f.styles c
asked_fits true f line c (inl asks) = absurd (let e = asks.1.1 in cc)
asked_fits false f line c (inl asks) =
    request_fits f.styles asks.0.request c (spelled_days line asks.0 asks.1.0) (spelled_command f asks.0 c asks.1.1)
asked_fits failed f line c (inr none) = absurd (let e = none.1 in cc)
