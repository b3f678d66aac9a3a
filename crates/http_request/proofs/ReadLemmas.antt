-- A request is read, part by part.
use Rattle.std.proofs.Common.{◌≡◌, ◌≤◌, ◌<◌, ◌+◌, ◌++◌, ℕ, List, length, take, drop, max, map, Option, Some, None}
use Rattle.std.proofs.Common.{codes, refl, ap, ◌∙◌, sym, subst, inl, inr, arith}
use Rattle.std.proofs.Common.{Bool, true, false, ◌==◌, ◌&&◌, [], ◌∷◌, if◌then◌else◌}
use Rattle.std.specs.List.{slice_split}
use Rattle.std.specs.Str.{bytes_eq}
use Rattle.money_core.proofs.BytesLemmas.{same_bytes}
use Rattle.std.proofs.lemmas.Grind.{common_steps}
use Rattle.std.proofs.lemmas.List.{length-append, drop_at}
use Rattle.std.proofs.lemmas.List.Sums.{AllPass-from_list_all}
use Rattle.std.proofs.KnownBytes.{Consumes-trans}
use Rattle.std.specs.Io.KnownBytes.{Consumes}
use Rattle.http_header.specs.Token.{IsToken, is_token_byte}
use Rattle.httparse.specs.Grammar.{RequestHead, print_request}
use Rattle.httparse.specs.Spans.{header_bytes, span_bytes, name_and_value}
use Rattle.httparse.specs.declared.spans.HeaderSpan.{HeaderSpan}
use Rattle.httparse.specs.declared.spans.RequestSpans.{RequestSpans}
use Rattle.httparse.proofs.GrammarLemmas.{ReadsRequest-append}
use Rattle.http_request.specs.Head.{IsHead}
use Rattle.http_request.specs.Found.{HasHead, IsBad, EndsEarly}
use Rattle.http_request.specs.Path.{path_of}
use Rattle.http_request.specs.Routes.{command_at, report_at, route_in, route_of}
use Rattle.http_request.specs.Query.{query_of, with_query}
use Rattle.http_request.specs.declared.routes.Route.{Route}
use Rattle.http_request.specs.declared.routes.Route.TheVariants as to
use Rattle.treasury_requests.specs.declared.words.Word.{Word}
use Rattle.treasury_requests.specs.declared.given.Given.{Given}
use Rattle.http_request.specs.Length.{body_length}
use Rattle.http_request.specs.Foreign.{is_foreign}
use Rattle.http_request.specs.Accept.{form_of}
use Rattle.http_request.specs.declared.call.Form.{Form}
use Rattle.http_request.specs.declared.call.Form.TheVariants as form
use Rattle.http_request.specs.Call.{ReadsCall, IsStopped, is_foreign_head, body_length_of, given_at, Leads, AsksIn}
use Rattle.http_request.specs.Call.{most_read}
use Rattle.http_request.specs.Calling.{report_by, CallsBy, LacksBytes}
use Rattle.http_request.specs.declared.call.Call.{Call}
use Rattle.http_request.specs.declared.call.Call.TheVariants.{Unreadable, Foreign, Nowhere}
use Rattle.http_request.proofs.LengthLemmas.{body_bound}

-- ---- routes

-- no route for what is no method
get_token : IsToken (codes "GET")
unfolding is_token_byte
get_token = (omega arith, AllPass-from_list_all is_token_byte (codes "GET") refl)

post_token : IsToken (codes "POST")
unfolding is_token_byte
post_token = (omega arith, AllPass-from_list_all is_token_byte (codes "POST") refl)

other_text : (method name : List ℕ) → IsToken name → (IsToken method → ⊥) → bytes_eq method name ≡ false
other_text method name token none = by_test (bytes_eq method name) refl
  where
    by_test : (v : Bool) → bytes_eq method name ≡ v → v ≡ false
    by_test true e = absurd (none (subst IsToken (sym (same_bytes method name e)) token))
    by_test false e = refl

pub no_method : (method path : List ℕ) → (IsToken method → ⊥) → route_of method path ≡ None
unfolding route_of
no_method method path none = by_pieces (slice_split (λ b. b == 47) path)
  where
    by_pieces : (pieces : List (List ℕ)) → route_in method pieces ≡ None
    by_pieces [] = refl
    by_pieces ([] ∷ []) = refl
    by_pieces ([] ∷ name ∷ parts) =
        ap (λ (v : Bool). if v && bytes_eq name (codes "commands") then command_at parts
        else if bytes_eq method (codes "GET") then report_at name parts else None)
        (other_text method (codes "POST") post_token none)
        ∙ ap (λ (v : Bool). if v then report_at name parts else None)
        (other_text method (codes "GET") get_token none)
    by_pieces ((b ∷ piece) ∷ pieces) = refl

-- where an equal method and an equal target lead
pub leads_told : (m n p q : List ℕ) (route : Option Route) → m ≡ n → p ≡ q → route ≡ route_of m (path_of p)
    → route_of n (path_of q) ≡ route
leads_told m n p q route same alike is =
    sym (is ∙ (ap (λ (t : List ℕ). route_of t (path_of p)) same ∙ ap (λ (t : List ℕ). route_of n (path_of t)) alike))

-- ---- heads

-- a head stays one after which more is read
head_more : (text : List ℕ) (head : RequestHead) (rest more : List ℕ) → IsHead text head rest
    → IsHead (text ++ more) head (rest ++ more)
head_more text head rest more is =
    record { reads = ReadsRequest-append text head rest more is.reads; small = is.small; few = is.few }

-- the bytes after a head
bytes_after_head : (text : List ℕ) (head : RequestHead) (rest : List ℕ) (n : ℕ) → IsHead text head rest
    → n ≡ length (print_request head) → (drop n text ≡ rest) × (length text ≡ n + length rest)
bytes_after_head text head rest n is len =
    let e : text ≡ print_request head ++ rest = is.reads.1 in (
      ap (drop n) e ∙ drop_at (print_request head) rest n (sym len),
      ap length e ∙ (length-append (print_request head) rest ∙ ap (λ (m : ℕ). m + length rest) (sym len)),
    )

-- where the input ends before the head does
pub stopped_early : (r0 r1 : Option (List ℕ)) (text : List ℕ) → EndsEarly r0 r1 text → IsStopped r0 r1
stopped_early r0 r1 text ends =
    record {
      seen = text;
      read = ends.read;
      bounded = (let b = ends.bounded in omega arith);
      cut = inl (ends.none, ends.may);
    }

-- what was read calls for this, in a form
abbrev pub ReadsAs : Option (List ℕ) → Option (List ℕ) → Form → Call → Type 0
ReadsAs r0 r1 asked call = ReadsCall r0 r1 (record { call = call; form = asked })

pub read_bad : (r0 r1 : Option (List ℕ)) (text : List ℕ) → IsBad r0 r1 text → ReadsAs r0 r1 form.Text Unreadable
read_bad r0 r1 text bad =
    record {
      seen = text;
      read = bad.read;
      bounded = (let b = bad.bounded in omega arith);
      calls = inl bad.never;
      asks = inr (bad.never, refl);
      stops = bad.stops;
    }

module _ (r0 r1 : Option (List ℕ)) (text : List ℕ) (headers : List HeaderSpan) (spans : RequestSpans)
    (h : HasHead r0 r1 text headers spans) (asked : Form)
    (is_asked : asked ≡ form_of (map (header_bytes text) (take spans.headers headers))) where
  head_there : (P : List ℕ → List ℕ → Type 0) → P (span_bytes text spans.method) (path_of (span_bytes text spans.path))
      → P h.head.method (path_of h.head.target)
  head_there P leads = subst (λ (t : List ℕ). P h.head.method (path_of t)) h.at.path
      (subst (λ (m : List ℕ). P m (path_of (span_bytes text spans.path))) h.at.method leads)

  -- the form that it asks for
  asks_of : asked ≡ form_of (map name_and_value h.head.fields)
  asks_of = is_asked ∙ ap form_of h.at.fields

  asks_here : AsksIn text asked
  asks_here = inl (h.head, h.rest, h.is_head, asks_of)

  -- whether it is foreign
  foreign_is : (b : Bool) → is_foreign (map (header_bytes text) (take spans.headers headers)) ≡ b
      → is_foreign_head h.head ≡ b
  foreign_is b e = sym (ap is_foreign h.at.fields) ∙ e

  -- a head that is
  pub foreign_calls : is_foreign (map (header_bytes text) (take spans.headers headers)) ≡ true
      → ReadsAs r0 r1 asked Foreign
  foreign_calls is =
      record {
        seen = text;
        read = h.read;
        bounded = (let b = h.bounded in omega arith);
        calls = (h.head, h.rest, h.is_head, foreign_is true is);
        asks = asks_here;
        stops = h.stops;
      }

  module _ (own : is_foreign (map (header_bytes text) (take spans.headers headers)) ≡ false) (route : Option Route)
      (leads : route_of (span_bytes text spans.method) (path_of (span_bytes text spans.path)) ≡ route) where
    -- where another leads
    leads_there : Leads text h.head h.rest route
    leads_there = record {
      is_head = h.is_head;
      own = foreign_is false own;
      leads = head_there (λ (m p : List ℕ). route_of m p ≡ route) leads;
    }

  -- one that leads nowhere, or to a report
  pub nowhere_calls : is_foreign (map (header_bytes text) (take spans.headers headers)) ≡ false
      → route_of (span_bytes text spans.method) (path_of (span_bytes text spans.path)) ≡ None
      → ReadsAs r0 r1 asked Nowhere
  nowhere_calls own leads =
      record {
        seen = text;
        read = h.read;
        bounded = (let b = h.bounded in omega arith);
        calls = (h.head, h.rest, leads_there own None leads);
        asks = asks_here;
        stops = h.stops;
      }

  pub report_calls : is_foreign (map (header_bytes text) (take spans.headers headers)) ≡ false → (w : Word)
      (path : List Given)
      → route_of (span_bytes text spans.method) (path_of (span_bytes text spans.path)) ≡ Some (to.Report w path)
      → (call : Call) → call ≡ report_by w (with_query w path (query_of (span_bytes text spans.path)))
      → ReadsAs r0 r1 asked call
  report_calls own w path leads call is =
      subst (ReadsAs r0 r1 asked) (sym is) (by_given (with_query w path (query_of (span_bytes text spans.path))) refl)
    where
      given_is : (o : Option (List Given)) → with_query w path (query_of (span_bytes text spans.path)) ≡ o
          → given_at h.head w path ≡ o
      given_is o e = sym (ap (λ (t : List ℕ). with_query w path (query_of t)) h.at.path) ∙ e

      by_given : (o : Option (List Given)) → with_query w path (query_of (span_bytes text spans.path)) ≡ o
          → ReadsAs r0 r1 asked (report_by w o)
      by_given None e = record {
        seen = text;
        read = h.read;
        bounded = (let b = h.bounded in omega arith);
        calls = inr (inr (h.head, h.rest, w, path, leads_there own (Some (to.Report w path)) leads, given_is None e));
        asks = asks_here;
        stops = h.stops;
      }
      by_given (Some given) e = record {
        seen = text;
        read = h.read;
        bounded = (let b = h.bounded in omega arith);
        calls = (h.head, h.rest, path, leads_there own (Some (to.Report w path)) leads, given_is (Some given) e);
        asks = asks_here;
        stops = h.stops;
      }

  module _ (r2 branch : Option (List ℕ))
      (own : is_foreign (map (header_bytes text) (take spans.headers headers)) ≡ false)
      (leads : route_of (span_bytes text spans.method) (path_of (span_bytes text spans.path))
      ≡ Some (to.Commands branch)) where
    leads_here : Leads text h.head h.rest (Some (to.Commands branch))
    leads_here = leads_there own (Some (to.Commands branch)) leads

    size_is : (o : Option ℕ) → body_length (map (header_bytes text) (take spans.headers headers)) ≡ o
        → body_length_of h.head ≡ o
    size_is o e = sym (ap body_length h.at.fields) ∙ e

    still : (more : List ℕ) → Leads (text ++ more) h.head (h.rest ++ more) (Some (to.Commands branch))
    still more = record {
      is_head = head_more text h.head h.rest more h.is_head;
      own = foreign_is false own;
      leads = leads_here.leads;
    }

    rest_is : drop spans.len text ≡ h.rest
    rest_is = (bytes_after_head text h.head h.rest spans.len h.is_head h.at.len).0

    -- a whole head and a whole body
    most : (n : ℕ) → body_length (map (header_bytes text) (take spans.headers headers)) ≡ Some n
        → spans.len + n ≤ most_read
    most n size = (let s = h.is_head.small in let k = h.at.len in let b =
        body_bound (map (header_bytes text) (take spans.headers headers)) n size in omega arith)

    whole_length : (more : List ℕ) → length (text ++ more) ≡ spans.len + length (h.rest ++ more)
    whole_length more =
        (let a = length-append text more in let b = length-append h.rest more in let t =
        (bytes_after_head text h.head h.rest spans.len h.is_head h.at.len).1 in omega arith)

    pub command_calls : (o : Option ℕ) (call : Call)
        → body_length (map (header_bytes text) (take spans.headers headers)) ≡ o
        → CallsBy branch o r1 r2 (drop spans.len text) call → ReadsAs r0 r2 asked call
    command_calls None call size (kept, is) = subst (ReadsAs r0 r2 asked) (sym is) (record {
      seen = text;
      read = subst (λ (r : Option (List ℕ)). Consumes r0 r text) (sym kept) h.read;
      bounded = (let b = h.bounded in omega arith);
      calls = inr (inl (
        h.head,
        h.rest,
        branch,
        leads_here,
        size_is None size,
      ));
      asks = asks_here;
      stops = h.stops;
    })
    command_calls (Some n) call size (body, has, is) = subst (ReadsAs r0 r2 asked) (sym is) (record {
      seen = text ++ has.more;
      read = Consumes-trans r0 r1 r2 text has.more h.read has.read;
      bounded = (
          let l = whole_length has.more in
          let b = subst (λ (t : List ℕ). length (t ++ has.more) ≤ max n (length t)) rest_is has.bounded in
          let t = (bytes_after_head text h.head h.rest spans.len h.is_head h.at.len).1 in
          let w = h.bounded in
          let m = most n size in
          grind (arith, common_steps)
          );
      calls = (
        h.head,
        h.rest ++ has.more,
        n,
        still has.more,
        size_is (Some n) size,
        subst (λ (t : List ℕ). n ≤ length (t ++ has.more)) rest_is has.long,
        has.is ∙ ap (λ (t : List ℕ). take n (t ++ has.more)) rest_is,
      );
      asks = inl (h.head, h.rest ++ has.more, (still has.more).is_head, asks_of);
      stops = tt;
    })

    pub command_stops : (o : Option ℕ) → body_length (map (header_bytes text) (take spans.headers headers)) ≡ o
        → LacksBytes o r1 r2 (drop spans.len text) → IsStopped r0 r2
    command_stops None size lacks = absurd lacks
    command_stops (Some n) size lacks =
        let short = subst (λ (t : List ℕ). length (t ++ lacks.more) < n) rest_is lacks.short in
        record {
          seen = text ++ lacks.more;
          read = Consumes-trans r0 r1 r2 text lacks.more h.read lacks.read;
          bounded = (let l = whole_length lacks.more in let m = most n size in omega arith);
          cut = inr (h.head, h.rest ++ lacks.more, branch, n, still lacks.more, size_is (Some n) size, short);
        }

    -- the same, of what is equal
    pub command_told : (call : Call) (o : Option ℕ) (begun : List ℕ)
        → o ≡ body_length (map (header_bytes text) (take spans.headers headers)) → begun ≡ drop spans.len text
        → CallsBy branch o r1 r2 begun call → ReadsAs r0 r2 asked call
    command_told call o begun size rest calls =
        command_calls o call (sym size) (subst (λ (t : List ℕ). CallsBy branch o r1 r2 t call) rest calls)

    pub stop_told : (o : Option ℕ) (begun : List ℕ)
        → o ≡ body_length (map (header_bytes text) (take spans.headers headers)) → begun ≡ drop spans.len text
        → LacksBytes o r1 r2 begun → IsStopped r0 r2
    stop_told o begun size rest lacks =
        command_stops o (sym size) (subst (λ (t : List ℕ). LacksBytes o r1 r2 t) rest lacks)
