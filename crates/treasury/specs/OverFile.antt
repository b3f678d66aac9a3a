-- What is said to a word over a database file, and what it leaves of the file (own rules; docs/RULES.md, "The
-- program"), while the disk returns what was written. An image is what the files, the database and its log, hold; that
-- of a word, when they were opened.
use mathlib.Core.Logic.{inl, inr}
use Rattle.std.specs.Prelude.{◌≡◌, ◌≢◌, ◌<◌, ◌⊎◌, ℕ, Bool, true, false, List, [], ◌∷◌, ◌++◌, take}
use Rattle.std.specs.Prelude.{if◌then◌else◌, length, Option, None, Some, IfSome, Ok, Err, codes}
use Rattle.std.specs.Io.KnownBytes.{Appends}
use Rattle.clap.specs.Walk.{Row, first_of}
use Rattle.sqlite_disk.specs.declared.Disk as disk
use Rattle.sqlite_disk.specs.declared.Files.{Files}
use Rattle.sqlite_wal.specs.Recovery.{Image}
use Rattle.sqlite_wal.specs.Reads.{AreClean}
use Rattle.sqlite_store.specs.declared.store.FileStore.{FileStore}
use Rattle.sqlite.specs.Held.{Held}
use Rattle.sqlite.specs.Start.{FindsIn}
use Rattle.sqlite.specs.Tree.{Trees}
use Rattle.sqlite.specs.Files.{file_state, IsOpened}
use Rattle.money_core.specs.declared.cause.Cause.{Cause}
use Rattle.money_core.specs.declared.cause.Cause.TheVariants.{OutOfMemory, Store, Damaged, Request as NoRequest}
use Rattle.money_core.specs.declared.cause.Cause.TheVariants.{ReadFault}
use Rattle.book_core.specs.declared.refusal.Refusal.TheVariants.{Plain}
use Rattle.treasury_state.specs.Federation.{Federation}
use Rattle.treasury_state.specs.Rows.{rows}
use Rattle.treasury_core.specs.declared.command.Answer.TheVariants.{Done}
use Rattle.treasury_core.specs.Run.{Turn}
use Rattle.treasury_tables.specs.Rows.{AreTreesOf}
use Rattle.treasury_requests.specs.declared.request.Terms.{Terms}
use Rattle.treasury_requests.specs.declared.request.Spelled.{Spelled}
use Rattle.treasury_requests.specs.declared.request.Request.{Request}
use Rattle.treasury_requests.specs.declared.request.Request.TheVariants.{Import}
use Rattle.treasury_api.specs.Answer.{answer_text}
use Rattle.treasury_api.specs.Step.{Standing}
use Rattle.treasury_api.specs.OneRequest.{command_of}
use Rattle.treasury_spelling.specs.Spelling.{request_in, terms_in, says_no_count, given}
use Rattle.treasury.specs.Word.{AnswersWord, Told}
pub use Rattle.treasury.specs.Spoken.{Spoken, IsRefusedBy, IsFileRefused, IsJournalRefused, Tells}
use Rattle.treasury.specs.At.{SaysAt}
use Rattle.treasury_files.specs.declared.left.Left.{Left}
use Rattle.treasury_files.specs.declared.left.Left.TheVariants.{Untouched, Closed}
use Rattle.treasury_files.specs.Left.{HoldsRows, HoldsOf, HaveRows, IsCleanIn, MayBe, MayComeBack, AreSpared, KeepsFile}
use Rattle.treasury_files.specs.Left.{HasNoTreasury}
use Rattle.treasury_files.specs.InFile.{most_journal, HasTreasury, ShowsState, LeavesState, MakesOver}

-- what was said to a word
abbrev pub said_to : Told → Spoken
said_to w = record { text = w.text; refused = w.refused }

-- ---- what a word asks for

-- the request that the values of a word spell, or that of `import`, with a journal that was read
abbrev pub WordAsks : List ℕ → List Row → Spelled → Type 0
WordAsks word values request =
    ((word ≡ codes "import") × ((branch : List ℕ) × (journal : List ℕ)
    × (first_of (codes "branch") values ≡ Some branch)
    × (request ≡ given (terms_in values) (Import branch journal))))
    ⊎ ((word ≢ codes "init") × (word ≢ codes "import") × ((form : Request) × (request_in word values ≡ Some form)
    × (request ≡ given (terms_in values) form)))

-- they spell none: a branch or a journal is not given, a count is none, or another value is missing or none
abbrev pub WordAsksNothing : List ℕ → List Row → Type 0
WordAsksNothing word values =
    ((word ≡ codes "import")
    × ((first_of (codes "branch") values ≡ None) ⊎ ((first_of (codes "journal") values ≡ None)
    ⊎ (says_no_count values ≡ true))))
    ⊎ ((word ≢ codes "init") × (word ≢ codes "import") × (request_in word values ≡ None))

-- ---- what is said over a file

module _ {D : Type 0} (g : disk.Ghosts D) where
  -- A file was opened and closed, and that is what is left. What its connection showed first is what the image holds,
  -- and that has a treasury. Of whichever state these are the rows: the request is answered as by that state, and the
  -- file that is closed holds the rows of the state where the answer leads.
  pub record AnswersOver (image : Image) (request : Spelled) (said : Spoken) (left : Left D g) : Type 0 where
    pub opened : Held (FileStore D g)
    pub closed : Files D
    pub is_left : left ≡ Closed closed
    pub found : AreClean g closed.log closed.db → FindsIn image (file_state opened)
    pub serves : AreClean g closed.log closed.db → IsOpened opened
    pub has : AreClean g closed.log closed.db → HasTreasury (file_state opened).now
    pub answers : AreClean g closed.log closed.db → (f : Federation) → ShowsState g opened f
        → (end : Standing) × AnswersWord (record { now = f; failed = false }) request said.text said.refused end
        × LeavesState g closed end.now

  -- trees of a database with the rows of the state where a request leads that is answered by a state
  abbrev pub HaveRowsBehind : Trees → Federation → Spelled → Type 0
  HaveRowsBehind trees f request =
      (text : List ℕ) × (refused : Bool) × (end : Standing)
      × AnswersWord (record { now = f; failed = false }) request text refused end × AreTreesOf trees (rows end.now)

  -- What the next word may find holds the rows that the files held; what may come back of a database that a failure
  -- shut has these, or the rows of the state where the request leads.
  pub record MayHaveDone (image : Image) (request : Spelled) (left : Left D g) : Type 0 where
    pub finds : IsCleanIn g left → (next : Image) → MayBe g image left next → (f : Federation) → HoldsOf image f
        → ∥ HoldsRows next (rows f) ∥₁
    pub comes_back : IsCleanIn g left → (trees : Trees) → MayComeBack g left trees → (f : Federation) → HoldsOf image f
        → HaveRows trees (rows f) ⊎ HaveRowsBehind trees f request
    pub spared : IsCleanIn g left → AreSpared g image left

  -- `init`: refused, by 40, 41 or 43, it leaves the file
  abbrev pub SaysToInit : Image → Spoken → Left D g → Type 0
  SaysToInit image said left =
      (IsFileRefused said × KeepsFile g image left)
      ⊎ (MakesOver g image left × (said ≡ record { text = answer_text [] (Ok Done); refused = false }))

  -- How the request of a word ends over a file.
  pub data SaysOver (image : Image) (request : Spelled) (said : Spoken) (left : Left D g) : Type 0 where
    -- 40: the file is left as it was
    has_no_memory : IsRefusedBy OutOfMemory said → KeepsFile g image left → SaysOver image request said left
    -- 43, which has its reason: so is it
    has_no_treasury : IsRefusedBy Damaged said → HasNoTreasury g image left → KeepsFile g image left
        → SaysOver image request said left
    -- 41: the request may have been done
    cannot_be_used : IsRefusedBy Store said → MayHaveDone image request left → SaysOver image request said left
    is_answered : AnswersOver image request said left → SaysOver image request said left

  -- a cause alone is said, and no file was opened
  abbrev pub IsRefusedBefore : Cause → Spoken → Left D g → Type 0
  IsRefusedBefore cause said left = IsRefusedBy cause said × (left ≡ Untouched)

  -- The same of `import`, whose journal is read first: it is refused, or what its reader has, where that is known, up
  -- to the limit.
  abbrev pub SaysToJournal : Image → List ℕ → Terms → Option (List ℕ) → Spoken → Left D g → Type 0
  SaysToJournal image branch terms has said left =
      (IsJournalRefused said × (left ≡ Untouched))
      ⊎ ((journal : List ℕ) × IfSome has (λ bytes. journal ≡ take most_journal bytes)
      × SaysOver image (given terms (Import branch journal)) said left)

  -- How any word but `run` ends, by its values.
  pub data SaysToWord (image : Image) (word : List ℕ) (values : List Row) (said : Spoken) (left : Left D g)
      : Type 0 where
    -- without a file it is answered by a service, and no file was opened
    names_no_file : first_of (codes "db") values ≡ None → SaysAt word values said → left ≡ Untouched
        → SaysToWord image word values said left
    makes_tables : word ≡ codes "init" → SaysToInit image said left → SaysToWord image word values said left
    -- its values spell no request: 44
    asks_nothing : WordAsksNothing word values → IsRefusedBefore NoRequest said left
        → SaysToWord image word values said left
    -- the journal of `import` cannot be read: 45 or 40
    has_no_journal : word ≡ codes "import" → IsJournalRefused said → left ≡ Untouched
        → SaysToWord image word values said left
    has_request : (request : Spelled) → WordAsks word values request → SaysOver image request said left
        → SaysToWord image word values said left

  -- a word is told what is said to it; or 40, and no file was opened
  abbrev pub IsTold : {W : Type 0} → Image → (W → Option (List ℕ)) → W → W → ℕ → List ℕ → List Row → Left D g → Type 0
  IsTold image contents w0 w1 status word values left =
      (said : Spoken) × Tells contents w0 w1 status said
      × (IsRefusedBefore OutOfMemory said left ⊎ SaysToWord image word values said left)

  -- ---- words over a file, one after another

  -- Words over a file, while the disk returns what was written and nobody else writes to the file: something is said to
  -- each, be it answered or refused, and it finds what the one before it left.
  abbrev pub AreToldOver : Image → List Told → Image → Type 0
  AreToldOver start [] end = end ≡ start
  AreToldOver start (w ∷ ws) end =
      (left : Left D g) × SaysOver start w.request (said_to w) left × IsCleanIn g left
      × ((next : Image) × MayBe g start left next × AreToldOver next ws end)

  -- The same of words of which none is refused for the file's sake: each is answered.
  abbrev pub AreAnsweredOver : Image → List Told → Image → Type 0
  AreAnsweredOver start [] end = end ≡ start
  AreAnsweredOver start (w ∷ ws) end =
      (left : Left D g) × (word : AnswersOver start w.request (said_to w) left)
      × AreClean g word.closed.log word.closed.db
      × ((next : Image) × MayBe g start left next × AreAnsweredOver next ws end)

-- The states between words over a file: a word is answered by the state, and leads on; or it is refused by 40, 41 or
-- 43, and leaves it.
abbrev pub AreToldBut : Federation → List Told → Federation → Type 0
AreToldBut f [] end = end ≡ f
AreToldBut f (w ∷ ws) end =
    ((mid : Standing) × AnswersWord (record { now = f; failed = false }) w.request w.text w.refused mid
    × AreToldBut mid.now ws end)
    ⊎ (IsFileRefused (said_to w) × AreToldBut f ws end)

-- the commands among words that are answered or refused so, with their replies, in order
abbrev pub turns_of_told : (f : Federation) (words : List Told) (end : Federation) → AreToldBut f words end → List Turn
turns_of_told f [] end told = []
turns_of_told f (w ∷ ws) end (inl (mid, (reply, (answers, refused)), rest)) =
    command_of answers ++ turns_of_told mid.now ws end rest
turns_of_told f (w ∷ ws) end (inr (refused, rest)) = turns_of_told f ws end rest
