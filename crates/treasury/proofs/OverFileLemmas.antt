-- A word over a database file: its treasury is started, answers and is closed.
use Rattle.std.proofs.Common.{◌≡◌, ◌≢◌, ◌<◌, ◌⊎◌, ℕ, Bool, true, false, List, [], length, Option, None, Some, Err}
use Rattle.std.proofs.Common.{codes, refl, sym, ap, subst}
use Rattle.std.proofs.Common.{inl, inr, arith}
use Rattle.std.proofs.KnownBytes.{Appends-nil}
use Rattle.std.specs.Fmt.{digits}
use Rattle.std.specs.Option.{IsSome}
use Rattle.std.specs.Io.KnownBytes.{Appends}
use Rattle.clap.specs.Walk.{Row, first_of}
use Rattle.sqlite_disk.specs.declared.Disk as disk
use Rattle.sqlite_disk.specs.declared.Files.{Files}
use Rattle.sqlite_wal.specs.Recovery.{Image}
use Rattle.sqlite_wal.specs.Reads.{AreClean}
use Rattle.sqlite_wal.proofs.LogLemmas.{SeenMayStay}
use Rattle.sqlite_trees.specs.Tree.{Trees}
use Rattle.sqlite_store.specs.declared.store.FileStore.{FileStore}
use Rattle.sqlite.specs.State.{HasCleanDisk}
use Rattle.sqlite.specs.Files.{file_state, over_files}
use Rattle.money_core.specs.declared.cause.Cause.{Cause}
use Rattle.money_core.specs.declared.cause.Cause.TheVariants.{OutOfMemory, ReadFault, Request as NoRequest}
use Rattle.book_core.specs.declared.refusal.Refusal.TheVariants.{Plain}
use Rattle.treasury_state.specs.Federation.{Federation}
use Rattle.treasury_state.specs.Rows.{rows}
use Rattle.treasury_store.specs.Treasury.{Treasury}
use Rattle.treasury_requests.specs.declared.request.Terms.{Terms}
use Rattle.treasury_requests.specs.declared.request.Spelled.{Spelled}
use Rattle.treasury_api.specs.Answer.{answer_text}
use Rattle.treasury_api.specs.Asked.{AsksOf}
use Rattle.treasury_api.specs.Replied.{standing}
use Rattle.treasury_api.specs.Step.{Standing, reply_to, next}
use Rattle.treasury_api.specs.OneRequest.{request_text, is_refusal}
use Rattle.treasury_api.specs.Left.{LeavesRequest}
use Rattle.treasury_files.specs.declared.file.Unopened.{Unopened as Why}
use Rattle.treasury_files.specs.declared.file.Unopened.TheVariants as why
use Rattle.treasury_files.specs.declared.left.Left.{Left}
use Rattle.treasury_files.specs.declared.left.Left.TheVariants.{Untouched, Closed, Shut}
use Rattle.treasury.specs.Word.{AnswersWord, SaysTo}
use Rattle.treasury_files.specs.Left.{HoldsOf, HaveRows, KeepsFile}
use Rattle.treasury.specs.At.{SaysAt}
use Rattle.treasury.specs.OverFile.{Spoken, IsRefusedBy, IsRefusedBefore, IsFileRefused, AnswersOver}
use Rattle.treasury_files.specs.InFile.{ShowsState, LeavesState}
use Rattle.treasury_spelling.specs.Spelling.{terms_in, given}
use Rattle.treasury_requests.specs.declared.request.Request.{Request}
use Rattle.treasury_requests.specs.declared.request.Request.TheVariants.{Import}
use Rattle.treasury.specs.OverFile.{HaveRowsBehind, MayHaveDone, Tells, SaysOver, SaysToJournal, SaysToWord, IsTold}
use Rattle.treasury.specs.OverFile.{has_no_memory, has_no_treasury, cannot_be_used}
use Rattle.treasury.specs.OverFile.{names_no_file, asks_nothing, has_no_journal, has_request}
use Rattle.treasury.specs.declared.words.said.Said.{Said}
use Rattle.treasury.specs.declared.words.over_file.Answered.{Answered}
use Rattle.treasury.specs.OverFileParts.{spoken, SaysToImport, SaysToForm}
use Rattle.treasury_files.specs.Started.{cause_of_why, IsUnserved, IsStarted, IsClosedAs, IsStillOpen}
use Rattle.treasury_files.proofs.LeftLemmas.{shows_rows, keeps_untouched}
use Rattle.treasury_files.proofs.StartedLemmas.{left_behind, committed_in}

-- a request that values spell
pub spelled_some : (o : Option Request) → IsSome o → (request : Request) × (o ≡ Some request)
spelled_some None is = absurd cc
spelled_some (Some request) is = (request, refl)

-- the line of 40
line_of_40 : codes "refused 40 OutOfMemory\n" ≡ answer_text [] (Err (Plain OutOfMemory))
unfolding answer_text digits
line_of_40 = refl

some_40 : 0 < length (answer_text [] (Err (Plain OutOfMemory)))
some_40 = subst (λ (text : List ℕ). 0 < length text) line_of_40 (omega arith)

-- nothing is told, for want of memory
pub tells_nothing : {W : Type 0} (contents : W → Option (List ℕ)) (w0 w1 : W) (status : ℕ) → w1 ≡ w0 → status ≡ 1
    → Tells contents w0 w1 status (record { text = answer_text [] (Err (Plain OutOfMemory)); refused = true })
tells_nothing {W} contents w0 w1 status same one =
    inr (
      0,
      some_40,
      subst (λ (w : W). Appends (contents w0) (contents w) []) (sym same) (Appends-nil (contents w0)),
      one,
    )

-- a file is refused by one of three causes
pub file_refused : (why : Why) (said : Spoken) → IsRefusedBy (cause_of_why why) said → IsFileRefused said
file_refused why.NoMemory said refused = inl refused
file_refused (why.Unusable reason) said refused = inr (inl refused)
file_refused (why.NoTreasury reason) said refused = inr (inr refused)
file_refused (why.OtherVersion version) said refused = inr (inr refused)
file_refused (why.Strange told) said refused = inr (inr refused)

module _ {D : Type 0} (g : disk.Ghosts D) where
  -- its treasury answers a request, and the file is closed
  pub answers_over : (image : Image) (request : Spelled) (old new : Treasury (FileStore D g)) (text : List ℕ)
      (refused : Bool) (closed : Files D)
      → IsStarted g image old → SaysTo over_files old request text refused new → IsClosedAs g new.store.conn closed
      → AnswersOver g image request (record { text = text; refused = refused }) (Closed closed)
  answers_over image request old new text refused closed started says closes = record {
    opened = started.opened;
    closed = closed;
    is_left = refl;
    found = λ k. started.on.found (at_first k);
    serves = λ k. started.on.serves (at_first k);
    has = λ k. started.starts.has (says.clean (closes.copied k).was_clean);
    answers = answers;
  }
    where
      at_first : AreClean g closed.log closed.db → HasCleanDisk (file_state started.opened)
      at_first k = started.starts.clean (says.clean (closes.copied k).was_clean)

      answers : AreClean g closed.log closed.db → (f : Federation) → ShowsState g started.opened f
          → (end : Standing) × AnswersWord (record { now = f; failed = false }) request text refused end
          × LeavesState g closed end.now
      answers k f shows =
          let at_end = (closes.copied k).was_clean in
          let of = started.starts.of (says.clean at_end) (committed_in g image started.opened started.on (at_first k)) f
          shows in
          let r = says.answers at_end f of in (
            standing new r.0,
            subst (λ (failed : Bool). AnswersWord (record { now = f; failed = failed }) request text refused
                (standing new r.0)) started.starts.unfailed r.1.1,
            left_behind g new.store.conn closed r.0 closes.live (closes.copied k) r.1.0.store.good
                r.1.0.store.tables,
          )

  module _ (stays : SeenMayStay g) where
    -- or the file cannot be closed: what may come back has the rows of the state, or of the one where the request leads
    pub may_have_done : (image : Image) (request : Spelled) (old new : Treasury (FileStore D g)) (text : List ℕ)
        (refused : Bool) (it : FileStore D g)
        → IsStarted g image old → SaysTo over_files old request text refused new
        → LeavesRequest over_files old new request → IsStillOpen g new.store.conn it
        → MayHaveDone g image request (Shut it)
    may_have_done image request old new text refused it started says leaves quiet = record {
      finds = λ clean next none. absurd none;
      comes_back = λ clean trees may f holds.
          back (omega (arith, quiet.clean, clean.0)) trees (quiet.outcomes trees may) f holds;
      spared = λ clean. tt;
    }
      where
        back : HasCleanDisk (file_state new.store.conn) → (trees : Trees) → (file_state new.store.conn).may_leave trees
            → (f : Federation) → HoldsOf image f
            → HaveRows trees (rows f) ⊎ HaveRowsBehind g trees f request
        back last trees may f holds =
            let before = says.clean last in
            let first = started.starts.clean before in
            let shows : ShowsState g started.opened f = record {
              good = holds.good;
              holds = shows_rows g image started.opened (rows f) holds.held (started.on.found first)
                  (started.on.serves first);
            } in
            let of = started.starts.of before (committed_in g image started.opened started.on first) f shows in
            let answered = (says.answers last f of).1.1.1.0 in
            let asks = subst (λ (failed : Bool). AsksOf failed f request answered.asked) started.starts.unfailed
            answered.asks in
            let asked = answered.asked in
            let r = reply_to f asked in
            elim (leaves last (started.starts.is_open before) f of asked answered.asks last trees may) [
              | inl was ↦ inl (inl was)
              | inr made ↦ inr (
                request_text f asked r,
                is_refusal r,
                next (record { now = f; failed = false }) asked r,
                (
                  r,
                  (
                    record {
                      asked = asked;
                      days = answered.days;
                      asks = asks;
                      replies = inl refl;
                      text = refl;
                      left = refl;
                    },
                    refl,
                  ),
                ),
                made,
              )
            ]

  -- what keeps a file has done nothing of a request
  pub keeps_undone : (image : Image) (request : Spelled) (left : Left D g) → KeepsFile g image left
      → MayHaveDone g image request left
  keeps_undone image request left keeps = record {
    finds = λ clean next may f holds. keeps.finds clean next may (rows f) holds.held;
    comes_back = λ clean trees may f holds. inl (keeps.comes_back clean trees may (rows f) holds.held);
    spared = keeps.spared;
  }

  -- a file that serves no word keeps what it held, whatever the cause is, and 43 has its reason
  pub says_refused : (image : Image) (request : Spelled) (why : Why) (said : Spoken) (left : Left D g)
      → IsRefusedBy (cause_of_why why) said → IsUnserved g image why left → SaysOver g image request said left
  says_refused image request why.NoMemory said left refused unserved = has_no_memory refused unserved.keeps
  says_refused image request (why.Unusable reason) said left refused unserved =
      cannot_be_used refused (keeps_undone image request left unserved.keeps)
  says_refused image request (why.NoTreasury reason) said left refused unserved =
      has_no_treasury refused (unserved.reason refl) unserved.keeps
  says_refused image request (why.OtherVersion version) said left refused unserved =
      has_no_treasury refused (unserved.reason refl) unserved.keeps
  says_refused image request (why.Strange told) said left refused unserved =
      has_no_treasury refused (unserved.reason refl) unserved.keeps

  -- what is said to one request is said to an equal one
  pub said_alike : (image : Image) (one other : Spelled) (said : Spoken) (left : Left D g) → one ≡ other
      → SaysOver g image one said left → SaysOver g image other said left
  said_alike image one other said left same says = subst (λ (r : Spelled). SaysOver g image r said left) same says

  -- there is no memory for a request, and no file was opened
  pub says_before : (image : Image) (request : Spelled) (said : Said) (cause : Cause) (a : Answered D g)
      → a ≡ record { said = said; left = Untouched } → cause ≡ OutOfMemory → IsRefusedBy cause (spoken said)
      → SaysOver g image request (spoken a.said) a.left
  says_before image request said cause a is memory refused =
      subst (λ (b : Answered D g). SaysOver g image request (spoken b.said) b.left) (sym is)
      (has_no_memory (subst (λ (c : Cause). IsRefusedBy c (spoken said)) memory refused)
      (keeps_untouched g image Untouched refl))

  -- values spell no request, and no file was opened
  pub refused_before : (said : Said) (cause : Cause) (a : Answered D g)
      → a ≡ record { said = said; left = Untouched } → cause ≡ NoRequest → IsRefusedBy cause (spoken said)
      → IsRefusedBefore g NoRequest (spoken a.said) a.left
  refused_before said cause a is none refused = (
    subst (λ (b : Answered D g). IsRefusedBy NoRequest (spoken b.said)) (sym is)
        (subst (λ (c : Cause). IsRefusedBy c (spoken said)) none refused),
    ap (λ (b : Answered D g). b.left) is,
  )

  -- a word names no file, and none was opened
  pub no_file_is_named : (image : Image) (word : List ℕ) (values : List Row) (said : Said) (a : Answered D g)
      → a ≡ record { said = said; left = Untouched } → first_of (codes "db") values ≡ None
      → SaysAt word values (spoken said) → SaysToWord g image word values (spoken a.said) a.left
  no_file_is_named image word values said a is none says =
      subst (λ (b : Answered D g). SaysToWord g image word values (spoken b.said) b.left) (sym is)
      (names_no_file none says refl)

  -- what is said to `import`, and to a word whose values spell its request
  pub import_ends : (image : Image) (word : List ℕ) (values : List Row) (said : Spoken) (left : Left D g)
      → word ≡ codes "import" → SaysToImport g image values said left → SaysToWord g image word values said left
  import_ends image word values said left is (inl (lacks, refused)) = asks_nothing (inl (is, lacks)) refused
  import_ends image word values said left is (inr (branch, has, at, inl (refused, none))) =
      has_no_journal is refused none
  import_ends image word values said left is (inr (branch, has, at, inr (journal, read, says))) =
      has_request (given (terms_in values) (Import branch journal)) (inl (is, (branch, journal, at, refl))) says

  pub form_ends : (image : Image) (word : List ℕ) (values : List Row) (said : Spoken) (left : Left D g)
      → word ≢ codes "init" → word ≢ codes "import" → SaysToForm g image word values said left
      → SaysToWord g image word values said left
  form_ends image word values said left first second (inl (none, refused)) =
      asks_nothing (inr (first, second, none)) refused
  form_ends image word values said left first second (inr (form, spells, says)) =
      has_request (given (terms_in values) form) (inr (first, second, (form, spells, refl))) says

  -- a journal cannot be read, and no file was opened
  pub journal_before : (image : Image) (branch : List ℕ) (terms : Terms) (has : Option (List ℕ)) (said : Said)
      (cause : Cause) (a : Answered D g) → a ≡ record { said = said; left = Untouched }
      → (cause ≡ ReadFault) ⊎ (cause ≡ OutOfMemory) → IsRefusedBy cause (spoken said)
      → SaysToJournal g image branch terms has (spoken a.said) a.left
  journal_before image branch terms has said cause a is (inl fault) refused =
      subst (λ (b : Answered D g). SaysToJournal g image branch terms has (spoken b.said) b.left) (sym is)
      (inl (inl (subst (λ (c : Cause). IsRefusedBy c (spoken said)) fault refused), refl))
  journal_before image branch terms has said cause a is (inr memory) refused =
      subst (λ (b : Answered D g). SaysToJournal g image branch terms has (spoken b.said) b.left) (sym is)
      (inl (inr (subst (λ (c : Cause). IsRefusedBy c (spoken said)) memory refused), refl))

  -- a word is told nothing, where there is no memory to read the words
  pub told_nothing : {W : Type 0} (image : Image) (contents : W → Option (List ℕ)) (w0 w1 : W) (status : ℕ)
      (word : List ℕ) (values : List Row) (left : Left D g)
      → left ≡ Untouched → w1 ≡ w0 → status ≡ 1 → IsTold g image contents w0 w1 status word values left
  told_nothing image contents w0 w1 status word values left none same one = (
    record { text = answer_text [] (Err (Plain OutOfMemory)); refused = true },
    tells_nothing contents w0 w1 status same one,
    inl ((refl, refl), none),
  )

  -- or what is said to it
  pub word_told : {W : Type 0} (image : Image) (contents : W → Option (List ℕ)) (w0 w1 : W) (status : ℕ) (word : List ℕ)
      (values : List Row) (said : Spoken) (left : Left D g)
      → Tells contents w0 w1 status said → SaysToWord g image word values said left
      → IsTold g image contents w0 w1 status word values left
  word_told image contents w0 w1 status word values said left tells says = (said, tells, inr says)

  -- what is told to one word is told to an equal one
  pub told_alike : {W : Type 0} (image : Image) (contents : W → Option (List ℕ)) (w0 w1 : W) (status : ℕ)
      (one other : List ℕ) (these those : List Row) (left : Left D g)
      → (one ≡ other) × (these ≡ those) → IsTold g image contents w0 w1 status one these left
      → IsTold g image contents w0 w1 status other those left
  told_alike image contents w0 w1 status one other these those left (same, alike) is =
      subst (λ (word : List ℕ). IsTold g image contents w0 w1 status word those left) same
      (subst (λ (values : List Row). IsTold g image contents w0 w1 status one values left) alike is)
