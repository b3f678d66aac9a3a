-- How long the object of a plain answer is.
use Rattle.std.proofs.Common.{◌≡◌, ◌≤◌, ◌<◌, ◌+◌, ◌*◌, ◌-◌, ◌++◌, ◌∷◌, [], ℕ, List, length, take, drop, codes, arith}
use Rattle.std.proofs.Common.{refl, ap, ◌∙◌, sym, subst, append_assoc, append-nil, length-append, Bool, true, false}
use Rattle.std.proofs.Common.{decimal, inl, inr, ◌⊎◌, map}
use Rattle.std.specs.List.{flat_map}
use Rattle.std.specs.Fmt.{digits}
use Rattle.std.proofs.lemmas.Str.{IsUtf8-nil, is_utf8-from_IsUtf8}
use Rattle.std.proofs.Common.{Result, Ok, Err, OnOk, Option, Some, None, IfSome, IsOk}
use Rattle.money_core.specs.declared.cause.Cause.{Cause}
use Rattle.money_core.specs.declared.cause.Cause.TheVariants as is
use Rattle.money_core.specs.Cause.{cause_number, cause_name}
use Rattle.json_text.specs.JsonText.{escaped, quoted, object_text, rows_text, lines_of}
use Rattle.json_text.proofs.LengthLemmas.{length-quoted}
use Rattle.json_text.specs.JsonText as held
use Rattle.treasury_state.specs.Federation.{Federation}
use Rattle.treasury_requests.specs.declared.request.Request.{Request}
use Rattle.treasury_reports.specs.Rows.{strings_of}
use Rattle.treasury_api.specs.Report.{report_rows, report_json}
use Rattle.treasury_messages.specs.Sentence.{sentence_of}
use Rattle.treasury_api.specs.JsonReply.{done_json, refusal_json, refused_json}
use Rattle.treasury_api.specs.Beside.{IsJsonNoted, IsJsonTold}
use Rattle.treasury_api.specs.WebServing.{IsJsonRefused}

-- ---- the parts of a refusal

-- the name of a cause
name_short : (c : Cause) → length (cause_name c) ≤ 20
name_short is.Utf8 = omega arith
name_short is.TooLong = omega arith
name_short is.Date = omega arith
name_short is.Header = omega arith
name_short is.Directive = omega arith
name_short is.StrayLine = omega arith
name_short is.Account = omega arith
name_short is.Amount = omega arith
name_short is.UnknownCommodity = omega arith
name_short is.Decimals = omega arith
name_short is.CommodityStyle = omega arith
name_short is.Cost = omega arith
name_short is.CostNotExact = omega arith
name_short is.Assignment = omega arith
name_short is.Virtual = omega arith
name_short is.Marks = omega arith
name_short is.TwoBlanks = omega arith
name_short is.Unbalanced = omega arith
name_short is.UnknownBranch = omega arith
name_short is.BranchName = omega arith
name_short is.CommodityExists = omega arith
name_short is.Full = omega arith
name_short is.MarkClash = omega arith
name_short is.ReservedMark = omega arith
name_short is.ReservedAccount = omega arith
name_short is.Locked = omega arith
name_short is.Limit = omega arith
name_short is.ClaimFailed = omega arith
name_short is.SameBranch = omega arith
name_short is.UnknownTransfer = omega arith
name_short is.WrongBranch = omega arith
name_short is.AlreadyReceived = omega arith
name_short is.TooEarly = omega arith
name_short is.LockBack = omega arith
name_short is.NothingToClose = omega arith
name_short is.BadAccount = omega arith
name_short is.BadAmount = omega arith
name_short is.BadId = omega arith
name_short is.OutOfMemory = omega arith
name_short is.Store = omega arith
name_short is.Closed = omega arith
name_short is.Damaged = omega arith
name_short is.Request = omega arith
name_short is.ReadFault = omega arith
name_short is.WriteFault = omega arith
name_short is.TooMuch = omega arith
name_short is.Changed = omega arith

-- its sentence
sentence_short : (c : Cause) → length (sentence_of c) ≤ 150
unfolding sentence_of
sentence_short is.Utf8 = omega arith
sentence_short is.TooLong = omega arith
sentence_short is.Date = omega arith
sentence_short is.Header = omega arith
sentence_short is.Directive = omega arith
sentence_short is.StrayLine = omega arith
sentence_short is.Account = omega arith
sentence_short is.Amount = omega arith
sentence_short is.UnknownCommodity = omega arith
sentence_short is.Decimals = omega arith
sentence_short is.CommodityStyle = omega arith
sentence_short is.Cost = omega arith
sentence_short is.CostNotExact = omega arith
sentence_short is.Assignment = omega arith
sentence_short is.Virtual = omega arith
sentence_short is.Marks = omega arith
sentence_short is.TwoBlanks = omega arith
sentence_short is.Unbalanced = omega arith
sentence_short is.UnknownBranch = omega arith
sentence_short is.BranchName = omega arith
sentence_short is.CommodityExists = omega arith
sentence_short is.Full = omega arith
sentence_short is.MarkClash = omega arith
sentence_short is.ReservedMark = omega arith
sentence_short is.ReservedAccount = omega arith
sentence_short is.Locked = omega arith
sentence_short is.Limit = omega arith
sentence_short is.ClaimFailed = omega arith
sentence_short is.SameBranch = omega arith
sentence_short is.UnknownTransfer = omega arith
sentence_short is.WrongBranch = omega arith
sentence_short is.AlreadyReceived = omega arith
sentence_short is.TooEarly = omega arith
sentence_short is.LockBack = omega arith
sentence_short is.NothingToClose = omega arith
sentence_short is.BadAccount = omega arith
sentence_short is.BadAmount = omega arith
sentence_short is.BadId = omega arith
sentence_short is.OutOfMemory = omega arith
sentence_short is.Store = omega arith
sentence_short is.Closed = omega arith
sentence_short is.Damaged = omega arith
sentence_short is.Request = omega arith
sentence_short is.ReadFault = omega arith
sentence_short is.WriteFault = omega arith
sentence_short is.TooMuch = omega arith
sentence_short is.Changed = omega arith

-- ---- objects

-- the parts of the object of an answer that is no refusal
append_assoc_four : (a s e f : List ℕ) → ((a ++ s) ++ e) ++ f ≡ a ++ (s ++ (e ++ f))
append_assoc_four a s e f = simp append_assoc

done_parts : (line : List ℕ) → done_json line [] None ≡ codes "{\"answer\":" ++ (quoted line
    ++ codes ",\"told\":[],\"notes\":[]}\n")
unfolding escaped lines_of
done_parts line =
    ap (λ (t : List ℕ). codes "{\"answer\":\"" ++ t)
    (append_assoc_four (flat_map escaped line
    ++ codes "\"") (codes ",\"told\":[],\"notes\":[]") (codes "}") (codes "\n"))

-- and where it says how many entries there are
nest_counted : (a s q e f : List ℕ) → ((a ++ (s ++ (q ++ []))) ++ e) ++ f ≡ a ++ (s ++ (q ++ (e ++ f)))
nest_counted a s q e f = simp (append_assoc, append-nil)

counted_parts : (line : List ℕ) (n : ℕ) → done_json line [] (Some n) ≡ codes "{\"answer\":" ++ (quoted line
    ++ (codes ",\"told\":[],\"notes\":[],\"entries\":" ++ (quoted (decimal n) ++ codes "}\n")))
unfolding escaped lines_of
counted_parts line n =
    ap (λ (t : List ℕ). codes "{\"answer\":\"" ++ t)
    (nest_counted (flat_map escaped line ++ codes "\"") (codes ",\"told\":[],\"notes\":[],\"entries\":\"")
    (flat_map escaped (decimal n) ++ codes "\"") (codes "}") (codes "\n"))

-- those of a refusal
nest_all : (a p b q c r d s e f : List ℕ)
    → ((a ++ (p ++ (b ++ (q ++ (c ++ (r ++ (d ++ s))))))) ++ e) ++ f
    ≡ a ++ (p ++ (b ++ (q ++ (c ++ (r ++ (d ++ (s ++ (e ++ f))))))))
nest_all a p b q c r d s e f = simp append_assoc

refused_parts : (line nr name sentence : List ℕ) → refusal_json line nr name sentence [] None
    ≡ codes "{\"answer\":" ++ (quoted line ++ (codes ",\"number\":" ++ (quoted nr
    ++ (codes ",\"name\":" ++ (quoted name ++ (codes ",\"sentence\":" ++ (quoted sentence
    ++ codes ",\"told\":[],\"notes\":[]}\n")))))))
unfolding escaped lines_of
refused_parts line nr name sentence =
    ap (λ (t : List ℕ). codes "{\"answer\":\"" ++ t)
    (nest_all (flat_map escaped line ++ codes "\"") (codes ",\"number\":\"") (flat_map escaped nr ++ codes "\"")
    (codes ",\"name\":\"") (flat_map escaped name ++ codes "\"") (codes ",\"sentence\":\"")
    (flat_map escaped sentence ++ codes "\"") (codes ",\"told\":[],\"notes\":[]") (codes "}") (codes "\n"))

nest_more : (a p b q c r d g h e f : List ℕ)
    → ((a ++ (p ++ (b ++ (q ++ (c ++ (r ++ (d ++ (g ++ (h ++ []))))))))) ++ e) ++ f
    ≡ a ++ (p ++ (b ++ (q ++ (c ++ (r ++ (d ++ (g ++ (h ++ (e ++ f)))))))))
nest_more a p b q c r d g h e f = simp (append_assoc, append-nil)

refused_counted_parts : (line nr name sentence : List ℕ) (n : ℕ) → refusal_json line nr name sentence [] (Some n)
    ≡ codes "{\"answer\":" ++ (quoted line ++ (codes ",\"number\":" ++ (quoted nr
    ++ (codes ",\"name\":" ++ (quoted name ++ (codes ",\"sentence\":" ++ (quoted sentence
    ++ (codes ",\"told\":[],\"notes\":[],\"entries\":" ++ (quoted (decimal n) ++ codes "}\n")))))))))
unfolding escaped lines_of
refused_counted_parts line nr name sentence n =
    ap (λ (t : List ℕ). codes "{\"answer\":\"" ++ t)
    (nest_more (flat_map escaped line ++ codes "\"") (codes ",\"number\":\"") (flat_map escaped nr ++ codes "\"")
    (codes ",\"name\":\"") (flat_map escaped name ++ codes "\"") (codes ",\"sentence\":\"")
    (flat_map escaped sentence ++ codes "\"") (codes ",\"told\":[],\"notes\":[],\"entries\":\"")
    (flat_map escaped (decimal n) ++ codes "\"") (codes "}") (codes "\n"))

number_short : (c : Cause) → length (decimal (cause_number c)) ≤ 2
unfolding digits
number_short is.Utf8 = omega arith
number_short is.TooLong = omega arith
number_short is.Date = omega arith
number_short is.Header = omega arith
number_short is.Directive = omega arith
number_short is.StrayLine = omega arith
number_short is.Account = omega arith
number_short is.Amount = omega arith
number_short is.UnknownCommodity = omega arith
number_short is.Decimals = omega arith
number_short is.CommodityStyle = omega arith
number_short is.Cost = omega arith
number_short is.CostNotExact = omega arith
number_short is.Assignment = omega arith
number_short is.Virtual = omega arith
number_short is.Marks = omega arith
number_short is.TwoBlanks = omega arith
number_short is.Unbalanced = omega arith
number_short is.UnknownBranch = omega arith
number_short is.BranchName = omega arith
number_short is.CommodityExists = omega arith
number_short is.Full = omega arith
number_short is.MarkClash = omega arith
number_short is.ReservedMark = omega arith
number_short is.ReservedAccount = omega arith
number_short is.Locked = omega arith
number_short is.Limit = omega arith
number_short is.ClaimFailed = omega arith
number_short is.SameBranch = omega arith
number_short is.UnknownTransfer = omega arith
number_short is.WrongBranch = omega arith
number_short is.AlreadyReceived = omega arith
number_short is.TooEarly = omega arith
number_short is.LockBack = omega arith
number_short is.NothingToClose = omega arith
number_short is.BadAccount = omega arith
number_short is.BadAmount = omega arith
number_short is.BadId = omega arith
number_short is.OutOfMemory = omega arith
number_short is.Store = omega arith
number_short is.Closed = omega arith
number_short is.Damaged = omega arith
number_short is.Request = omega arith
number_short is.ReadFault = omega arith
number_short is.WriteFault = omega arith
number_short is.TooMuch = omega arith
number_short is.Changed = omega arith

-- the object of a plain answer fits in its room
plain_done_short : (line : List ℕ) → length line ≤ 63 → length (done_json line [] None) ≤ 2_048
plain_done_short line short =
    subst (λ (t : List ℕ). length t ≤ 2_048) (sym (done_parts line))
    (let e = length-append (codes "{\"answer\":") (quoted line ++ codes ",\"told\":[],\"notes\":[]}\n") in
    let k = length-append (quoted line) (codes ",\"told\":[],\"notes\":[]}\n") in
    let q = length-quoted line in
    omega (arith, e, k, q))

length_of_counted_parts : (a l b q e : List ℕ)
    → length (a ++ (l ++ (b ++ (q ++ e)))) ≡ length a + (length l + (length b + (length q + length e)))
length_of_counted_parts a l b q e = simp length-append

counted_done_short : (line : List ℕ) (n : ℕ) → length line ≤ 63 → length (decimal n) ≤ 40
    → length (done_json line [] (Some n)) ≤ 2_048
counted_done_short line n short digits_short =
    subst (λ (t : List ℕ). length t ≤ 2_048) (sym (counted_parts line n))
    (let e = length_of_counted_parts (codes "{\"answer\":") (quoted line)
    (codes ",\"told\":[],\"notes\":[],\"entries\":") (quoted (decimal n)) (codes "}\n") in
    let q = length-quoted line in
    let d = length-quoted (decimal n) in
    omega (arith, e, q, d, short, digits_short))

pub done_short : (line : List ℕ) (entries : Option ℕ) → length line ≤ 63
    → IfSome entries (λ n. length (decimal n) ≤ 40) → length (done_json line [] entries) ≤ 2_048
done_short line None short digits_short = plain_done_short line short
done_short line (Some n) short digits_short = counted_done_short line n short digits_short

length_of_object_parts : (a l b n c m d s e : List ℕ)
    → length (a ++ (l ++ (b ++ (n ++ (c ++ (m ++ (d ++ (s ++ e))))))))
    ≡ length a + (length l + (length b + (length n + (length c + (length m + (length d + (length s + length e)))))))
length_of_object_parts a l b n c m d s e = simp length-append

plain_refused_short : (line : List ℕ) (cause : Cause) → length line ≤ 63
    → length (refused_json line cause [] None) ≤ 2_048
plain_refused_short line cause short =
    subst (λ (t : List ℕ). length t ≤ 2_048)
    (sym (refused_parts line (decimal (cause_number cause)) (cause_name cause) (sentence_of cause)))
    (let e = length_of_object_parts (codes "{\"answer\":") (quoted line) (codes ",\"number\":")
    (quoted (decimal (cause_number cause)))
    (codes ",\"name\":") (quoted (cause_name cause)) (codes ",\"sentence\":") (quoted (sentence_of cause))
    (codes ",\"told\":[],\"notes\":[]}\n") in
    let l = length-quoted line in
    let n = length-quoted (decimal (cause_number cause)) in
    let m = length-quoted (cause_name cause) in
    let s = length-quoted (sentence_of cause) in
    let ns = number_short cause in
    let ms = name_short cause in
    let ss = sentence_short cause in
    omega (arith, e, l, n, m, s, ns, ms, ss))

length_of_more_parts : (a l b n c m d s g h e : List ℕ)
    → length (a ++ (l ++ (b ++ (n ++ (c ++ (m ++ (d ++ (s ++ (g ++ (h ++ e))))))))))
    ≡ length a + (length l + (length b + (length n + (length c + (length m + (length d + (length s
    + (length g + (length h + length e)))))))))
length_of_more_parts a l b n c m d s g h e = simp length-append

counted_refused_short : (line : List ℕ) (cause : Cause) (n : ℕ) → length line ≤ 63 → length (decimal n) ≤ 40
    → length (refused_json line cause [] (Some n)) ≤ 2_048
counted_refused_short line cause n short digits_short =
    subst (λ (t : List ℕ). length t ≤ 2_048)
    (sym (refused_counted_parts line (decimal (cause_number cause)) (cause_name cause) (sentence_of cause) n))
    (let e = length_of_more_parts (codes "{\"answer\":") (quoted line) (codes ",\"number\":")
    (quoted (decimal (cause_number cause)))
    (codes ",\"name\":") (quoted (cause_name cause)) (codes ",\"sentence\":") (quoted (sentence_of cause))
    (codes ",\"told\":[],\"notes\":[],\"entries\":") (quoted (decimal n)) (codes "}\n") in
    let l = length-quoted line in
    let k = length-quoted (decimal (cause_number cause)) in
    let m = length-quoted (cause_name cause) in
    let s = length-quoted (sentence_of cause) in
    let d = length-quoted (decimal n) in
    let ns = number_short cause in
    let ms = name_short cause in
    let ss = sentence_short cause in
    omega (arith, e, l, k, m, s, d, ns, ms, ss, short, digits_short))

pub refused_short : (line : List ℕ) (cause : Cause) (told : List ℕ) (entries : Option ℕ) → length line ≤ 63
    → told ≡ [] → IfSome entries (λ n. length (decimal n) ≤ 40) → length (refused_json line cause told entries) ≤ 2_048
refused_short line cause told entries short none digits_short =
    subst (λ (t : List ℕ). length (refused_json line cause t entries) ≤ 2_048) (sym none)
    (by_entries entries digits_short)
  where
    by_entries : (o : Option ℕ) → IfSome o (λ n. length (decimal n) ≤ 40)
        → length (refused_json line cause [] o) ≤ 2_048
    by_entries None digits_short = plain_refused_short line cause short
    by_entries (Some n) digits_short = counted_refused_short line cause n short digits_short

-- ---- the object of a report

nest_rows : (t e f : List ℕ) → t ++ ((e ++ f) ++ []) ≡ ((t ++ []) ++ e) ++ f
nest_rows t e f = simp (append_assoc, append-nil)

report_parts : (rows : List (List (List ℕ))) → codes "{\"lines\":" ++ (rows_text rows ++ (codes "}\n" ++ []))
    ≡ object_text ((codes "lines", held.rows rows) ∷ []) ++ codes "\n"
unfolding escaped
report_parts rows =
    ap (λ (t : List ℕ). codes "{\"lines\":" ++ t) (nest_rows (rows_text rows) (codes "}") (codes "\n"))

pub report_object : (f : Federation) (report : Request) (old rows new : List ℕ)
    → rows ≡ [] ++ rows_text (map strings_of (report_rows f report))
    → new ≡ old ++ (codes "{\"lines\":" ++ (rows ++ (codes "}\n" ++ []))) → new ≡ old ++ report_json f report
report_object f report old rows new is said =
    said ∙ (ap (λ (t : List ℕ). old ++ (codes "{\"lines\":" ++ (t ++ (codes "}\n" ++ [])))) is
    ∙ ap (λ (t : List ℕ). old ++ t) (report_parts (map strings_of (report_rows f report))))

-- ---- the object of a refusal, by its cause

pub refused_as : (line nr name said told : List ℕ) (cause : Cause) (entries : Option ℕ)
    → nr ≡ decimal (cause_number cause) → name ≡ cause_name cause → said ≡ sentence_of cause
    → refusal_json line nr name said told entries ≡ refused_json line cause told entries
refused_as line nr name said told cause entries number named sentence =
    ap (λ (t : List ℕ). refusal_json line t name said told entries) number
    ∙ (ap (λ (t : List ℕ). refusal_json line (decimal (cause_number cause)) t said told entries) named
    ∙ ap (λ (t : List ℕ). refusal_json line (decimal (cause_number cause)) (cause_name cause) t told entries) sentence)

pub refused_fits : (line nr name said told : List ℕ) (cause : Cause) (entries : Option ℕ) (old cap : ℕ)
    → nr ≡ decimal (cause_number cause) → name ≡ cause_name cause → said ≡ sentence_of cause → length line ≤ 63
    → told ≡ [] → IfSome entries (λ n. length (decimal n) ≤ 40) → old + 2_048 ≤ cap
    → old + length (refusal_json line nr name said told entries) ≤ cap
refused_fits line nr name said told cause entries old cap number named sentence short none digits_short fits =
    let e = ap length (refused_as line nr name said told cause entries number named sentence) in
    let s = refused_short line cause told entries short none digits_short in
    omega (arith, e, s, fits)

-- nothing is told
pub refused_none : {T E : Type 0} (result : Result T E) (line : List ℕ) (cause : Cause) (entries : Option ℕ)
    (old mid new : List ℕ) → mid ≡ old → old ≡ [] → OnOk result (new ≡ mid ++ refused_json line cause [] entries)
    → OnOk result (IsJsonRefused line cause entries new)
refused_none (Ok x) line cause entries old mid new same empty said = (
  [],
  is_utf8-from_IsUtf8 [] IsUtf8-nil,
  said ∙ ap (λ (t : List ℕ). t ++ refused_json line cause [] entries) (same ∙ empty),
)
refused_none (Err e) line cause entries old mid new same empty said = tt

-- what is told in the object that is appended to nothing
pub told_in : (line : List ℕ) (cause : Cause) (told kept : List ℕ) (entries : Option ℕ) (old new : List ℕ) → old ≡ []
    → (kept ≡ told) ⊎ (kept ≡ []) → new ≡ old ++ refused_json line cause kept entries
    → IsJsonTold line cause told entries new
told_in line cause told kept entries old new none (inl same) is =
    inl (is ∙ ap (λ (o : List ℕ). o ++ refused_json line cause kept entries) none
    ∙ ap (λ (t : List ℕ). refused_json line cause t entries) same)
told_in line cause told kept entries old new none (inr same) is =
    inr (is ∙ ap (λ (o : List ℕ). o ++ refused_json line cause kept entries) none
    ∙ ap (λ (t : List ℕ). refused_json line cause t entries) same)

-- the same where nothing is told, since memory was refused before
pub told_none : {T E : Type 0} (result : Result T E) (line : List ℕ) (cause : Cause) (told : List ℕ)
    (entries : Option ℕ) (old mid new : List ℕ) → mid ≡ old → old ≡ []
    → OnOk result (new ≡ mid ++ refused_json line cause [] entries)
    → OnOk result (IsJsonTold line cause told entries new)
told_none (Ok v) line cause told entries old mid new same none is =
    told_in line cause told [] entries mid new (same ∙ none) (inr refl) is
told_none (Err e) line cause told entries old mid new same none is = tt

-- what is noted in the object that is appended to nothing
pub noted_in : (line noted kept : List ℕ) (entries : Option ℕ) (old new : List ℕ) → old ≡ []
    → (kept ≡ noted) ⊎ (kept ≡ []) → new ≡ old ++ done_json line kept entries → IsJsonNoted line noted entries new
noted_in line noted kept entries old new none (inl same) is =
    inl (is ∙ ap (λ (o : List ℕ). o ++ done_json line kept entries) none
    ∙ ap (λ (t : List ℕ). done_json line t entries) same)
noted_in line noted kept entries old new none (inr same) is =
    inr (is ∙ ap (λ (o : List ℕ). o ++ done_json line kept entries) none
    ∙ ap (λ (t : List ℕ). done_json line t entries) same)

-- what is told to be refused is not done
pub not_both : {T E : Type 0} (result : Result T E) (error : E) → result ≡ Err error → IsOk result → ⊥
not_both (Ok x) error is ok = absurd cc
not_both (Err e) error is ok = absurd cc
