use Rattle.std.proofs.Common.{inl, ◌≡◌, arith, length, sym, subst, List, ℕ, drop, take, ◌++◌}
use Rattle.httparse.specs.Grammar.{HasNoRequest}
use Rattle.std.proofs.lemmas.Grind.{common_steps}
use Rattle.std.proofs.lemmas.List.{take-append-le}
use Rattle.std.proofs.KnownBytes.{Consumes-trans, Consumes-nil}
use Rattle.std.specs.Io.KnownBytes.{Consumes}
use Rattle.http_request.proofs.HeadLemmas.{all_before, head_found, never_full, HasNoRequest-nil}
use Rattle.http_request.proofs.head.read_head.Goals as goal

pub returns-in-Ok-Complete-clause-found : goal.returns-in-Ok-Complete-clause-found
returns-in-Ok-Complete-clause-found g c =
    let ok = rw c.in-Ok-Complete.field-0-is at c.in-Ok-Complete.ensures in
    let got =
    take-append-le c.in-Ok.count c.read.new.buf (drop c.min-most.result c.reading.chunk) c.in-Ok.ensures.bound.0 in
    let more : c.extend_from_slice.new.self.items ≡ c.reading.text.items ++ take c.in-Ok.count c.read.new.buf =
    grind (arith, common_steps, got) in
    let P : List ℕ → Type 0 = λ t. Consumes (g.R.Read.remaining c.args.reader.now) (g.R.Read.remaining c.read.new.self)
    t in
    head_found _ _ c.extend_from_slice.new.self.items c.as_slice.result.now c.parse_request.new.headers
    c.in-Ok-Complete.spans c.as_slice.ensures.value
    (subst P (sym more) (Consumes-trans _ _ _ _ _ c.reading.invariant.read c.in-Ok.ensures.bytes.0))
    (grind (arith, common_steps)) (grind (arith, common_steps)) ok.within ok.complete
    (record {
      before = c.reading.text.items;
      last = take c.in-Ok.count c.read.new.buf;
      split = more;
      none = c.reading.invariant.none;
      short = grind (arith, common_steps, got);
    })

pub returns-clause-found : goal.returns-clause-found
returns-clause-found g c =
    let full : length c.reading.text.items ≡ 16_384 =
    (let w = c.reading.invariant.within in let t = c.reading-test.false in let e =
    c.len.ensures in grind (arith, common_steps)) in
    record {
      read = c.reading.invariant.read;
      bounded = c.reading.invariant.within;
      never = never_full c.reading.text.items full c.reading.invariant.none;
      stops = all_before c.reading.text.items c.reading.invariant.none;
    }

pub reading-init : goal.reading-init
reading-init g c = record {
  read = subst (λ (t : List ℕ). Consumes (g.R.Read.remaining c.args.reader.now) (g.R.Read.remaining c.args.reader.now)
      t) (sym c.requires) (Consumes-nil (g.R.Read.remaining c.args.reader.now));
  within = rw c.requires (omega arith);
  none = subst HasNoRequest (sym c.requires) HasNoRequest-nil;
  may = inl c.requires;
}
