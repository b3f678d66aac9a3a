-- What is said to a word that is sent to a running service (own rules; docs/RULES.md, "Through a service"). Of what a
-- socket gives or takes nothing is said: whatever comes, that is what is printed, or it is refused.
use Rattle.std.specs.Prelude.{◌≡◌, ◌≢◌, ◌⊎◌, ◌<◌, ℕ, Bool, true, false, List, Option, None, Some, codes, length, take}
use Rattle.std.specs.Str.{is_utf8}
use Rattle.std.specs.Io.KnownBytes.{Appends}
use Rattle.clap.specs.Walk.{Row, first_of}
use Rattle.money_core.specs.declared.cause.Cause.{Cause}
use Rattle.money_core.specs.declared.cause.Cause.TheVariants.{OutOfMemory, ReadFault, Request as NoRequest}
use Rattle.treasury_requests.specs.declared.request.Terms.{Terms}
use Rattle.treasury_requests.specs.declared.request.Spelled.{Spelled}
use Rattle.treasury_requests.specs.declared.request.Request.{Request}
use Rattle.treasury_requests.specs.declared.request.Request.TheVariants.{Import}
use Rattle.treasury_requests.specs.Request.{is_report, spelled}
use Rattle.treasury_client.specs.declared.call.Form.{Form}
use Rattle.treasury_client.specs.Sending.{IsSendable, call_text}
use Rattle.treasury_client.specs.Reply.{SaysToCommand, SaysToReport}
use Rattle.treasury_spelling.specs.Spelling.{request_in, terms_in, says_no_count, given, HasPort, LacksPort}
use Rattle.treasury.specs.declared.words.at.Unheard.{Unheard}
use Rattle.treasury.specs.declared.words.at.Unheard.TheVariants.{NoMemory}
use Rattle.treasury.specs.Spoken.{Spoken, IsRefusedBy, IsJournalRefused}

-- a call asks for a request: its body is a text that spells it
abbrev pub AsksFor : ℕ → Form → Spelled → List ℕ → Type 0
AsksFor port form request call =
    (body : List ℕ) × (IsSendable request → spelled body ≡ Some request) × (call ≡ call_text port form body)

-- such a call is sent
abbrev pub AsksService : {W : Type 0} → (W → Option (List ℕ)) → W → W → ℕ → Form → Spelled → Type 0
AsksService contents w0 w1 port form request =
    (call : List ℕ) × AsksFor port form request call × Appends (contents w0) (contents w1) call

-- nothing is sent, or such a call, or a first part of one
abbrev pub MayAsk : {W : Type 0} → (W → Option (List ℕ)) → W → W → ℕ → Form → Spelled → Type 0
MayAsk contents w0 w1 port form request =
    (w1 ≡ w0)
    ⊎ (AsksService contents w0 w1 port form request
    ⊎ ((call : List ℕ) × AsksFor port form request call
    × ((taken : ℕ) × (taken < length call) × Appends (contents w0) (contents w1) (take taken call))))

-- the cause by which it is refused that there is no reply: 40 only if nothing was sent
abbrev pub cause_of_silence : Unheard → Cause
cause_of_silence NoMemory = OutOfMemory
cause_of_silence _ = ReadFault

-- what bytes say that came for a report, or for a command
abbrev pub SaysToEither : Bool → List ℕ → Spoken → Type 0
SaysToEither true came said = SaysToReport came said.text said.refused
SaysToEither false came said = SaysToCommand came said.text said.refused

-- What is said to a request: 40, and nothing was sent; 45, where no reply came that says something; or what the bytes
-- say that came.
abbrev pub SaysFrom : Spelled → Spoken → Type 0
SaysFrom request said =
    IsRefusedBy OutOfMemory said
    ⊎ (IsRefusedBy ReadFault said ⊎ ((came : List ℕ) × SaysToEither (is_report request.request) came said))

-- The same of `import` with the bytes of its journal. What is sent of them is a text: they, if they are one.
abbrev pub SaysToBytesAt : List ℕ → Terms → List ℕ → Spoken → Type 0
SaysToBytesAt branch terms journal said =
    IsRefusedBy OutOfMemory said
    ⊎ ((sent : List ℕ) × (is_utf8 journal ≡ true → sent ≡ journal) × SaysFrom (given terms (Import branch sent)) said)

-- and of `import` by its values: its journal is read first, as over a file
abbrev pub SaysToImportAt : List Row → Spoken → Type 0
SaysToImportAt values said =
    (((first_of (codes "branch") values ≡ None) ⊎ ((first_of (codes "journal") values ≡ None)
    ⊎ (says_no_count values ≡ true)))
    × IsRefusedBy NoRequest said)
    ⊎ (IsJournalRefused said
    ⊎ ((branch : List ℕ) × (journal : List ℕ) × (first_of (codes "branch") values ≡ Some branch)
    × SaysToBytesAt branch (terms_in values) journal said))

-- and of a word whose values spell its request
abbrev pub SaysToFormAt : List ℕ → List Row → Spoken → Type 0
SaysToFormAt word values said =
    ((request_in word values ≡ None) × IsRefusedBy NoRequest said)
    ⊎ ((request : Request) × (request_in word values ≡ Some request)
    × SaysFrom (given (terms_in values) request) said)

-- any word, by its values: without a port it is refused, and only with one may a reply be told
abbrev pub SaysAt : List ℕ → List Row → Spoken → Type 0
SaysAt word values said =
    (LacksPort values × IsRefusedBy NoRequest said)
    ⊎ ((port : ℕ) × HasPort port values
    × (((word ≡ codes "import") × SaysToImportAt values said)
    ⊎ ((word ≢ codes "import") × SaysToFormAt word values said)))
