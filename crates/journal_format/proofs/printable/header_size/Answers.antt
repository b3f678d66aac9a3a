use Rattle.std.proofs.Common.{◌≡◌, ◌≤◌, ◌∙◌, true, length, arith, ap, sym, subst, ℕ, List, Option, Some, None}
use Rattle.std.proofs.lemmas.Bool.{leb-true}
use Rattle.journal_lines.specs.Header.{length_of, code_limit, description_limit}
use Rattle.journal_lines.specs.Printed.{is_code, HeaderOk, header_line}
use Rattle.journal_lines.proofs.DateLemmas.{dates_print}
use Rattle.journal_lines.proofs.HeaderLemmas.{code_parts, description_parts, header_short}
use Rattle.journal_format.specs.declared.txn.Txn.{Txn}
use Rattle.journal_format.proofs.printable.header_size.Goals as goal

code_short : (code : Option (List ℕ)) → is_code code ≡ true → length_of code ≤ code_limit
code_short None h = omega arith
code_short (Some code) h = leb-true (length code) code_limit (code_parts code h).short

line_short : (t : Txn) → HeaderOk t.day t.status t.code t.description
    → length (header_line t.day t.status t.code t.description) ≤ 1000
line_short t h = header_short t.day t.status t.code t.description (dates_print t.day h.number) h.code_ok
    (description_parts t.status t.code t.description h.description_ok)

pub header_len-requires-clause-code : goal.header_len-requires-clause-code
header_len-requires-clause-code c =
    subst (λ (code : Option (List ℕ)). length_of code ≤ code_limit) (sym c.bytes_of.ensures.value)
    (code_short c.args.txn.now.code c.requires.code_ok)

pub header_len-requires-clause-description : goal.header_len-requires-clause-description
header_len-requires-clause-description c =
    let t = c.args.txn.now in
    let short = leb-true (length t.description) description_limit
    (description_parts t.status t.code t.description c.requires.description_ok).short in
    subst (λ (text : List ℕ). length text ≤ description_limit)
    (sym (c.as_bytes-description.ensures.value ∙ c.as_str.ensures)) short

line_is : (t : Txn) (n : ℕ) (code : Option (List ℕ)) (text : List ℕ) → code ≡ t.code → text ≡ t.description
    → n ≡ length (header_line t.day t.status code text) → n ≡ length (header_line t.day t.status t.code t.description)
line_is t n code text e f h = h ∙
    (ap (λ (o : Option (List ℕ)). length (header_line t.day t.status o text)) e ∙ ap
    (λ (xs : List ℕ). length (header_line t.day t.status t.code xs)) f)

bounded : (t : Txn) (n : ℕ) (code : Option (List ℕ)) (text : List ℕ) → HeaderOk t.day t.status t.code t.description
    → code ≡ t.code → text ≡ t.description
    → n ≡ length (header_line t.day t.status code text) → n ≤ 1000
bounded t n code text h e f same = subst (λ (k : ℕ). k ≤ 1000) (sym (line_is t n code text e f same)) (line_short t h)

pub overflow_add-result : goal.overflow_add-result
overflow_add-result c =
    let t = c.args.txn.now in
    let short : c.header_len.result ≤ 1000 =
    bounded t c.header_len.result _ _ c.requires c.bytes_of.ensures.value
    (c.as_bytes-description.ensures.value ∙ c.as_str.ensures) (c.header_len.ensures t.day) in
    omega (arith, short)

pub returns-clause-bound : goal.returns-clause-bound
returns-clause-bound c =
    let t = c.args.txn.now in
    let short : c.header_len.result ≤ 1000 =
    bounded t c.header_len.result _ _ c.requires c.bytes_of.ensures.value
    (c.as_bytes-description.ensures.value ∙ c.as_str.ensures) (c.header_len.ensures t.day) in
    omega (arith, short)
