-- What holds of a run that ended, whatever engines gave.
use Rattle.std.proofs.Common.{◌≡◌, ◌≤◌, ◌∙◌, ◌++◌, ◌⊎◌, ⊎_elim, inl, inr, Bool, true, false, ℕ, List, [], ◌∷◌, length, Option, None, Some, IfSome, refl, sym, ap, subst, arith}
use Rattle.std.specs.Prelude.{◌==◌, ◌||◌, Contains, IsTrue}
use Rattle.std.specs.List.{AllByRecursion}
use Rattle.std.proofs.lemmas.Bool.Decides.{Decides-eqb}
use Rattle.std.proofs.lemmas.List.Elements.{All-contains, All-from_recursion, Contains-append_left, Contains-append_right, Contains-push}
use Rattle.edge_io.specs.Written.{appended}
use Rattle.ticks.specs.Moments.{moments_in}
use Rattle.tool_words.specs.Asked.{Wish, asked, explain, format, query, test, workload}
use Rattle.tool_words.specs.Engines.{Labels}
use Rattle.tool_words.specs.declared.asked.Choices.{Choices}
use Rattle.promql_tool.specs.Chosen.{Terms, terms_asked, terms_in, terms_of}
use Rattle.promql_tool.specs.Ended.{EndWith, EndsFiles, EndsWords, HasItsFiles, IsGoneLast, IsRefusedLast, IsTaken, IsThere, makes, misused, names, printed, queried, ran, stopped, tested, worked}
use Rattle.promql_tool.specs.Ends.{IfFirst, IfMade, IsOneOf, IsUnrun}
use Rattle.promql_tool.specs.Found.{IsFound, Just}
use Rattle.promql_tool.specs.Reading.{IsNoScript, IsRefusedFor}
use Rattle.promql_tool.specs.Report.{AsksToPrint, files_asked, files_of}
use Rattle.promql_tool.specs.Runs.{HoldsScript, Stops, stop_report}
use Rattle.promql_tool.specs.Texts.{fault_text, refusal_text, usage}
use Rattle.promql_tool.specs.Workload.{workload_path, workload_text}
use Rattle.promql_tool.specs.declared.fault.Refusal.{Refusal}
use Rattle.promql_tool.specs.declared.fault.Stop.{Stop}
use Rattle.promql_tool.specs.declared.fault.Stop.TheVariants as stop

-- a status that is one of two
one_test : (a b : Bool) → IsTrue (a || (b || false)) → IsTrue a ⊎ IsTrue b
one_test true b h = inl refl
one_test false true h = inr refl
one_test false false h = absurd (cc)

one_of_two : (status : ℕ) (P : ℕ → Type 0) → IsOneOf (0 ∷ 1 ∷ []) status → P 0 → P 1 → P status
one_of_two status P one p0 p1 = ⊎_elim (λ a. subst P ((Decides-eqb 0 status).0 a) p0) (λ b. subst P ((Decides-eqb 1 status).0 b) p1) (one_test (0 == status) (1 == status) one)

-- and the status of a file that isn't run
stop_status : (path : List ℕ) (end : Stop) (P : ℕ → Type 0) → P 3 → P 6 → P (stop_report path end).status
stop_status path stop.Gone P p3 p6 = p3
stop_status path (stop.Refused refusal) P p3 p6 = p6

module _ (terms : Terms) (found : List ℕ → Option (List ℕ) → Type 0) (idle : Type 0) (now : Option (List ℕ)) (status : ℕ) where
  among : (done : List (List ℕ)) (path : List ℕ) (later paths : List (List ℕ)) → done ++ path ∷ later ≡ paths → Contains paths path
  among done path later paths parts =
      subst (λ (ps : List (List ℕ)). Contains ps path) parts (Contains-append_right done (path ∷ later) path (Contains-append_left (path ∷ []) later path (Contains-push [] path)))

  files_status : (paths : List (List ℕ)) → EndsFiles terms found paths idle now status → (P : ℕ → Type 0) → P 0 → P 1 → P 3 → P 6 → P status
  files_status paths (ran hold one) P p0 p1 p3 p6 = one_of_two status P one p0 p1
  files_status paths (stopped done path later end parts hold why last rests is) P p0 p1 p3 p6 = subst P (sym is) (stop_status path end P p3 p6)

  -- 3
  files_gone : (paths : List (List ℕ)) → EndsFiles terms found paths idle now status → status ≡ 3 → (path : List ℕ) × Contains paths path × found path None × EndWith (fault_text path) now
  files_gone paths (ran hold one) three = absurd (one_of_two status (λ n. n ≡ 3 → ⊥) one (λ e. omega (arith, e)) (λ e. omega (arith, e)) three)
  files_gone paths (stopped done path later stop.Gone parts hold why last rests is) three = (path, among done path later paths parts, why, last)
  files_gone paths (stopped done path later (stop.Refused refusal) parts hold why last rests is) three = absurd (omega (arith, is, three))

  -- 6
  files_refused : (paths : List (List ℕ)) → EndsFiles terms found paths idle now status → status ≡ 6
      → (path : List ℕ) × (bytes : List ℕ) × (refusal : Refusal) × Contains paths path × found path (Some bytes) × IsRefusedFor terms bytes refusal × EndWith (refusal_text path refusal) now
  files_refused paths (ran hold one) six = absurd (one_of_two status (λ n. n ≡ 6 → ⊥) one (λ e. omega (arith, e)) (λ e. omega (arith, e)) six)
  files_refused paths (stopped done path later stop.Gone parts hold why last rests is) six = absurd (omega (arith, is, six))
  files_refused paths (stopped done path later (stop.Refused refusal) parts hold why last rests is) six = (path, why.0, refusal, among done path later paths parts, why.1, why.2, last)

  -- nothing was evaluated
  first_alone : (done : List (List ℕ)) (path : List ℕ) (later paths : List (List ℕ)) → done ++ path ∷ later ≡ paths → length paths ≤ 1 → done ≡ []
  first_alone [] path later paths parts few = refl
  first_alone (one ∷ []) path later paths parts few = let size = ap length parts in absurd (omega (arith, size, few))
  first_alone (one ∷ two ∷ done) path later paths parts few = let size = ap length parts in absurd (omega (arith, size, few))

  files_idle : (paths : List (List ℕ)) → EndsFiles terms found paths idle now status → IsOneOf (3 ∷ 6 ∷ []) status → length paths ≤ 1 → idle
  files_idle paths (ran hold one) stops few = absurd (one_of_two status (λ n. IsOneOf (3 ∷ 6 ∷ []) n → ⊥) one (λ e. cc) (λ e. cc) stops)
  files_idle paths (stopped done path later end parts hold why last rests is) stops few = rests (first_alone done path later paths parts few)

  -- ---- the first file

  module _ (IsBad : List ℕ → Type 0) (never : (path : List ℕ) → IsBad path → HoldsScript terms found path → ⊥) where
    -- a file that can't be run ends the run
    files_stop : (paths : List (List ℕ)) → EndsFiles terms found paths idle now status → (path : List ℕ) → Contains paths path → IsBad path → IsOneOf (3 ∷ 6 ∷ []) status
    files_stop paths (ran hold one) path named bad = absurd (never path bad (All-contains (HoldsScript terms found) paths path (All-from_recursion (HoldsScript terms found) paths hold) named))
    files_stop paths (stopped done at later end parts hold why last rests is) path named bad = subst (IsOneOf (3 ∷ 6 ∷ [])) (sym is) (stop_status at end (IsOneOf (3 ∷ 6 ∷ [])) refl refl)

    -- where it is the first, it is the one at which the run stops
    stops_first : (first : List ℕ) (rest paths : List (List ℕ)) → paths ≡ first ∷ rest → IsBad first → EndsFiles terms found paths idle now status
        → (end : Stop) × Stops terms found first end × (status ≡ (stop_report first end).status) × idle
    stops_first first rest paths is bad (ran hold one) =
        let h = subst (AllByRecursion (HoldsScript terms found)) is hold in absurd (never first bad h.0)
    stops_first first rest paths is bad (stopped [] path later end parts hold why last rests at) =
        let same : path ≡ first = cc in
        (end, subst (λ (p : List ℕ). Stops terms found p end) same why, at ∙ ap (λ (p : List ℕ). (stop_report p end).status) same, rests refl)
    stops_first first rest paths is bad (stopped (one ∷ done) path later end parts hold why last rests at) =
        let same : one ≡ first = cc in absurd (never first bad (subst (HoldsScript terms found) same hold.0))

    first_idle : (paths : List (List ℕ)) → EndsFiles terms found paths idle now status → IfFirst paths (λ path. IsBad path → IsOneOf (3 ∷ 6 ∷ []) status → idle)
    first_idle [] e = tt
    first_idle (first ∷ rest) e = λ bad one. (stops_first first rest (first ∷ rest) refl bad e).3

  module _ (IsNone : List ℕ → Type 0) (never : (path bytes : List ℕ) → IsNone path → found path (Some bytes) → ⊥) where
    first_gone : (first : List ℕ) (end : Stop) → IsNone first → Stops terms found first end → status ≡ (stop_report first end).status → IsOneOf (3 ∷ []) status
    first_gone first stop.Gone none why is = subst (IsOneOf (3 ∷ [])) (sym is) refl
    first_gone first (stop.Refused refusal) none why is = absurd (never first why.0 none why.1)

    first_missing : (paths : List (List ℕ)) → EndsFiles terms found paths idle now status → IfFirst paths (λ path. IsNone path → IsOneOf (3 ∷ []) status)
    first_missing [] e = tt
    first_missing (first ∷ rest) e = λ none.
        let s = stops_first IsNone (λ path unfit holds. never path holds.0 unfit holds.1) first rest (first ∷ rest) refl none e in
        first_gone first s.0 none s.1 s.2

  -- ---- completeness

  module _ (IsGood : List ℕ → Type 0) (gone : (path : List ℕ) → IsGood path → found path None → ⊥)
      (refused : (path bytes : List ℕ) (refusal : Refusal) → IsGood path → found path (Some bytes) → IsRefusedFor terms bytes refusal → ⊥) where
    files_complete : (paths : List (List ℕ)) → AllByRecursion IsGood paths → EndsFiles terms found paths idle now status → IsOneOf (0 ∷ 1 ∷ []) status
    files_complete paths each (ran hold one) = one
    files_complete paths each (stopped done path later stop.Gone parts hold why last rests is) =
        absurd (gone path (All-contains IsGood paths path (All-from_recursion IsGood paths each) (among done path later paths parts)) why)
    files_complete paths each (stopped done path later (stop.Refused refusal) parts hold why last rests is) =
        absurd (refused path why.0 refusal (All-contains IsGood paths path (All-from_recursion IsGood paths each) (among done path later paths parts)) why.1 why.2)

-- ---- words

-- the files of words that ask for such
named_by : (boxes : ℕ) (words : List (List ℕ)) (wish : Option Wish) → asked boxes words ≡ wish → files_asked wish ≡ files_of boxes words
named_by boxes words wish is = ap files_asked (sym is)

-- and their terms
terms_by : (boxes : ℕ) (words : List (List ℕ)) (wish : Option Wish) → asked boxes words ≡ wish → terms_asked wish ≡ terms_of boxes words
terms_by boxes words wish is = ap terms_asked (sym is)

-- what holds of each holds of the first
first_of : (paths : List (List ℕ)) (P : List ℕ → Type 0) → ((path : List ℕ) → P path) → IfFirst paths P
first_of [] P each = tt
first_of (path ∷ paths) P each = each path

-- words that ask for a text to be printed name no file
none_printed : (wish : Option Wish) → AsksToPrint wish → files_asked wish ≡ []
none_printed None asks = absurd asks
none_printed (Some (test choices engines paths)) asks = absurd asks
none_printed (Some (query choices engines moments path expr)) asks = absurd asks
none_printed (Some (workload choices engines series)) asks = absurd asks
none_printed (Some (format expr)) asks = refl
none_printed (Some (explain optimisers engines expr)) asks = refl

print_asked : (wish : Option Wish) → AsksToPrint wish → wish ≡ None → ⊥
print_asked None asks is = asks
print_asked (Some w) asks is = cc

not_made : (wish : Option Wish) (choices : Choices) (engines : List Labels) (series : ℕ) → AsksToPrint wish → wish ≡ Some (workload choices engines series) → ⊥
not_made wish choices engines series asks is = subst AsksToPrint is asks

module _ (boxes : ℕ) (words : List (List ℕ)) (idle : Type 0) (before now : Option (List ℕ)) (status : ℕ) where
  module _ (found : List ℕ → Option (List ℕ) → Type 0) where
    abbrev Ended : Type 0
    Ended = EndsWords boxes words found idle before now status

    pub ended_status : Ended → (P : ℕ → Type 0) → P 0 → P 1 → P 2 → P 3 → P 6 → P status
    ended_status (misused none rests text is) P p0 p1 p2 p3 p6 = subst P (sym is) p2
    ended_status (tested choices engines paths is e) P p0 p1 p2 p3 p6 = files_status (terms_in choices engines) found idle now status paths e P p0 p1 p3 p6
    ended_status (queried choices engines grid instant path expr is e) P p0 p1 p2 p3 p6 = files_status (terms_in choices engines) found idle now status (path ∷ []) e P p0 p1 p3 p6
    ended_status (worked choices engines series is e) P p0 p1 p2 p3 p6 = files_status (terms_in choices engines) (Just (workload_text series)) idle now status (workload_path ∷ []) e P p0 p1 p3 p6
    ended_status (printed asks one) P p0 p1 p2 p3 p6 = one_of_two status P one p0 p1

    -- 2
    pub ended_usage : Ended → status ≡ 2 → (asked boxes words ≡ None) × (now ≡ appended before usage)
    ended_usage (misused none rests text is) two = (none, text)
    ended_usage (tested choices engines paths is e) two =
        absurd (files_status (terms_in choices engines) found idle now status paths e (λ n. n ≡ 2 → ⊥) (λ e. omega (arith, e)) (λ e. omega (arith, e)) (λ e. omega (arith, e)) (λ e. omega (arith, e)) two)
    ended_usage (queried choices engines grid instant path expr is e) two =
        absurd (files_status (terms_in choices engines) found idle now status (path ∷ []) e (λ n. n ≡ 2 → ⊥) (λ e. omega (arith, e)) (λ e. omega (arith, e)) (λ e. omega (arith, e)) (λ e. omega (arith, e)) two)
    ended_usage (worked choices engines series is e) two =
        absurd (files_status (terms_in choices engines) (Just (workload_text series)) idle now status (workload_path ∷ []) e (λ n. n ≡ 2 → ⊥) (λ e. omega (arith, e)) (λ e. omega (arith, e)) (λ e. omega (arith, e)) (λ e. omega (arith, e)) two)
    ended_usage (printed asks one) two = absurd (one_of_two status (λ n. n ≡ 2 → ⊥) one (λ e. omega (arith, e)) (λ e. omega (arith, e)) two)

    pub ended_words : Ended → asked boxes words ≡ None → status ≡ 2
    ended_words (misused none rests text is) unfit = is
    ended_words (tested choices engines paths is e) unfit = absurd (cc)
    ended_words (queried choices engines grid instant path expr is e) unfit = absurd (cc)
    ended_words (worked choices engines series is e) unfit = absurd (cc)
    ended_words (printed asks one) unfit = absurd (print_asked (asked boxes words) asks unfit)

    -- 3
    files_gone_last : (terms : Terms) (paths : List (List ℕ)) → paths ≡ files_of boxes words → EndsFiles terms found paths idle now status → status ≡ 3 → IsGoneLast boxes words found now
    files_gone_last terms paths is e three =
        let g = files_gone terms found idle now status paths e three in
        record { path = g.0; named = subst (λ (ps : List (List ℕ)). Contains ps g.0) is g.1; gone = g.2; last = g.3 }

    script_is_there : (terms : Terms) (series : ℕ) → EndsFiles terms (Just (workload_text series)) (workload_path ∷ []) idle now status → status ≡ 3 → ⊥
    script_is_there terms series e three = let g = files_gone terms (Just (workload_text series)) idle now status (workload_path ∷ []) e three in let none = g.2 in cc

    pub ended_gone : Ended → status ≡ 3 → IsGoneLast boxes words found now
    ended_gone (misused none rests text is) three = absurd (omega (arith, is, three))
    ended_gone (tested choices engines paths is e) three = files_gone_last (terms_in choices engines) paths (named_by boxes words (Some (test choices engines paths)) is) e three
    ended_gone (queried choices engines grid instant path expr is e) three =
        files_gone_last (terms_in choices engines) (path ∷ []) (named_by boxes words (Some (query choices engines (moments_in grid instant) path expr)) is) e three
    ended_gone (worked choices engines series is e) three = absurd (script_is_there (terms_in choices engines) series e three)
    ended_gone (printed asks one) three = absurd (one_of_two status (λ n. n ≡ 3 → ⊥) one (λ e. omega (arith, e)) (λ e. omega (arith, e)) three)

    -- 6
    files_refused_last : (terms : Terms) (paths : List (List ℕ)) → terms ≡ terms_of boxes words → paths ≡ files_of boxes words → EndsFiles terms found paths idle now status → status ≡ 6 → IsRefusedLast boxes words found now
    files_refused_last terms paths edge is e six =
        let r = files_refused terms found idle now status paths e six in
        names r.0 r.1 r.2 (subst (λ (ps : List (List ℕ)). Contains ps r.0) is r.3) r.4 (subst (λ (t : Terms). IsRefusedFor t r.1 r.2) edge r.5) r.6

    script_refused_last : (choices : Choices) (engines : List Labels) (series : ℕ) → asked boxes words ≡ Some (workload choices engines series)
        → (path bytes : List ℕ) (refusal : Refusal) → Contains (workload_path ∷ []) path → Just (workload_text series) path (Some bytes) → IsRefusedFor (terms_in choices engines) bytes refusal → EndWith (refusal_text path refusal) now
        → IsRefusedLast boxes words found now
    script_refused_last choices engines series is path bytes refusal named here why last =
        let made : bytes ≡ workload_text series = cc in
        let same : path ≡ workload_path = only named in
        makes choices engines series refusal is (subst (λ (b : List ℕ). IsRefusedFor (terms_in choices engines) b refusal) made why) (subst (λ (p : List ℕ). EndWith (refusal_text p refusal) now) same last)
      where
        only : {one other : List ℕ} → Contains (one ∷ []) other → other ≡ one
        only {one} {other} h = All-contains (λ (p : List ℕ). p ≡ one) (one ∷ []) other (All-from_recursion (λ (p : List ℕ). p ≡ one) (one ∷ []) (refl, tt)) h

    pub ended_refused : Ended → status ≡ 6 → IsRefusedLast boxes words found now
    ended_refused (misused none rests text is) six = absurd (omega (arith, is, six))
    ended_refused (tested choices engines paths is e) six =
        files_refused_last (terms_in choices engines) paths (terms_by boxes words (Some (test choices engines paths)) is) (named_by boxes words (Some (test choices engines paths)) is) e six
    ended_refused (queried choices engines grid instant path expr is e) six =
        let wish = Some (query choices engines (moments_in grid instant) path expr) in
        files_refused_last (terms_in choices engines) (path ∷ []) (terms_by boxes words wish is) (named_by boxes words wish is) e six
    ended_refused (worked choices engines series is e) six =
        let r = files_refused (terms_in choices engines) (Just (workload_text series)) idle now status (workload_path ∷ []) e six in
        script_refused_last choices engines series is r.0 r.1 r.2 r.3 r.4 r.5 r.6
    ended_refused (printed asks one) six = absurd (one_of_two status (λ n. n ≡ 6 → ⊥) one (λ e. omega (arith, e)) (λ e. omega (arith, e)) six)

    -- nothing was evaluated
    files_rest : (terms : Terms) (its : List ℕ → Option (List ℕ) → Type 0) (paths : List (List ℕ)) → EndsFiles terms its paths idle now status → IsOneOf (2 ∷ 3 ∷ 6 ∷ []) status → length paths ≤ 1 → idle
    files_rest terms its paths e one few =
        files_idle terms its idle now status paths e
        (files_status terms its idle now status paths e (λ n. IsOneOf (2 ∷ 3 ∷ 6 ∷ []) n → IsOneOf (3 ∷ 6 ∷ []) n) (λ h. absurd (cc)) (λ h. absurd (cc)) (λ h. refl) (λ h. refl) one) few

    pub ended_idle : Ended → IsOneOf (2 ∷ 3 ∷ 6 ∷ []) status → length (files_of boxes words) ≤ 1 → idle
    ended_idle (misused none rests text is) one few = rests
    ended_idle (tested choices engines paths is e) one few =
        files_rest (terms_in choices engines) found paths e one (subst (λ (ps : List (List ℕ)). length ps ≤ 1) (sym (named_by boxes words (Some (test choices engines paths)) is)) few)
    ended_idle (queried choices engines grid instant path expr is e) one few = files_rest (terms_in choices engines) found (path ∷ []) e one (omega arith)
    ended_idle (worked choices engines series is e) one few = files_rest (terms_in choices engines) (Just (workload_text series)) (workload_path ∷ []) e one (omega arith)
    ended_idle (printed asks one) two few = absurd (one_of_two status (λ n. IsOneOf (2 ∷ 3 ∷ 6 ∷ []) n → ⊥) one (λ e. cc) (λ e. cc) two)

    -- the script of a workload that can't be run
    script_stops : (terms : Terms) (series : ℕ) → IsNoScript terms (workload_text series) → EndsFiles terms (Just (workload_text series)) (workload_path ∷ []) idle now status → status ≡ 6
    script_stops terms series never (ran hold one) =
        let h = hold.0 in
        let made : h.0 ≡ workload_text series = let here = h.1 in cc in
        absurd (subst (IsNoScript terms) (sym made) never h.2 h.3 h.4)
    script_stops terms series never (stopped done path later stop.Gone parts hold why last rests is) = absurd (cc)
    script_stops terms series never (stopped done path later (stop.Refused refusal) parts hold why last rests is) = is

    made_so : (wish : Option Wish) (P : Terms → List ℕ → Type 0) → ((choices : Choices) (engines : List Labels) (series : ℕ) → wish ≡ Some (workload choices engines series) → P (terms_in choices engines) (workload_text series)) → IfMade wish P
    made_so None P each = tt
    made_so (Some (test choices engines paths)) P each = tt
    made_so (Some (query choices engines moments path expr)) P each = tt
    made_so (Some (workload choices engines count)) P each = each choices engines count refl
    made_so (Some (format expr)) P each = tt
    made_so (Some (explain optimisers engines expr)) P each = tt

    six_made : (chosen : Choices) (sets : List Labels) (series : ℕ) → Ended → asked boxes words ≡ Some (workload chosen sets series) → IsNoScript (terms_in chosen sets) (workload_text series) → status ≡ 6
    six_made chosen sets series (misused none rests text is) asks never = absurd (cc)
    six_made chosen sets series (tested choices engines paths is e) asks never = absurd (cc)
    six_made chosen sets series (queried choices engines grid instant path expr is e) asks never = absurd (cc)
    six_made chosen sets series (printed asks_so one) asks never = absurd (not_made (asked boxes words) chosen sets series asks_so asks)
    six_made chosen sets series (worked choices engines count is e) asks never =
        let same : series ≡ count = cc in
        let choice : chosen ≡ choices = cc in
        let boxed : sets ≡ engines = cc in
        script_stops (terms_in choices engines) count
        (subst (λ (n : ℕ). IsNoScript (terms_in choices engines) (workload_text n)) same
        (subst (λ (l : List Labels). IsNoScript (terms_in choices l) (workload_text series)) boxed (subst (λ (x : Choices). IsNoScript (terms_in x sets) (workload_text series)) choice never))) e

    pub ended_made : Ended → IfMade (asked boxes words) (λ terms text. IsNoScript terms text → IsOneOf (4 ∷ 5 ∷ 6 ∷ 7 ∷ []) status)
    ended_made e = made_so (asked boxes words) (λ terms text. IsNoScript terms text → IsOneOf (4 ∷ 5 ∷ 6 ∷ 7 ∷ []) status)
        (λ chosen sets series asks never. subst (IsOneOf (4 ∷ 5 ∷ 6 ∷ 7 ∷ [])) (sym (six_made chosen sets series e asks never)) refl)

  -- ---- over a library that tells

  module _ (sound : Type 0) (files : List ℕ → Option (List ℕ)) where
    abbrev Over : List ℕ → Option (List ℕ) → Type 0
    Over = IsFound (Some files) sound

    -- a file that can't be run holds no script
    unrun : (terms : Terms) (path : List ℕ) → IsUnrun terms (files path) → HoldsScript terms Over path → ⊥
    unrun terms path unfit holds = let never = subst (IsUnrun terms) holds.1.if_some unfit in never holds.2 holds.3 holds.4

    some_there : (path bytes : List ℕ) → files path ≡ None → Over path (Some bytes) → ⊥
    some_there path bytes none h = let some : files path ≡ Some bytes = h.if_some in cc

    files_outside : (terms : Terms) (paths : List (List ℕ)) → terms ≡ terms_of boxes words → paths ≡ files_of boxes words → EndsFiles terms Over paths idle now status
        → (path : List ℕ) → Contains (files_of boxes words) path → IsUnrun (terms_of boxes words) (files path) → IsOneOf (3 ∷ 6 ∷ []) status
    files_outside terms paths edge is e path named unfit =
        files_stop terms Over idle now status (λ (p : List ℕ). IsUnrun terms (files p)) (unrun terms) paths e path (subst (λ (ps : List (List ℕ)). Contains ps path) (sym is) named)
        (subst (λ (t : Terms). IsUnrun t (files path)) (sym edge) unfit)

    nowhere : (wish : Option Wish) (path : List ℕ) → asked boxes words ≡ wish → files_asked wish ≡ [] → Contains (files_of boxes words) path → ⊥
    nowhere wish path is none named =
        let empty = subst (λ (ps : List (List ℕ)). Contains ps path) (sym (named_by boxes words wish is) ∙ none) named in omega (arith, empty.1)

    outside_one : EndsWords boxes words Over idle before now status → (path : List ℕ) → Contains (files_of boxes words) path → IsUnrun (terms_of boxes words) (files path) → IsOneOf (3 ∷ 6 ∷ []) status
    outside_one (misused none rests text is) path named unfit = absurd (nowhere None path none refl named)
    outside_one (tested choices engines paths is e) path named unfit =
        let wish = Some (test choices engines paths) in files_outside (terms_in choices engines) paths (terms_by boxes words wish is) (named_by boxes words wish is) e path named unfit
    outside_one (queried choices engines grid instant file expr is e) path named unfit =
        let wish = Some (query choices engines (moments_in grid instant) file expr) in files_outside (terms_in choices engines) (file ∷ []) (terms_by boxes words wish is) (named_by boxes words wish is) e path named unfit
    outside_one (worked choices engines series is e) path named unfit = absurd (nowhere (Some (workload choices engines series)) path is refl named)
    outside_one (printed asks one) path named unfit = absurd (nowhere (asked boxes words) path refl (none_printed (asked boxes words) asks) named)

    -- the first file
    abbrev RestsFirst : Terms → List (List ℕ) → Type 0
    RestsFirst terms paths = IfFirst paths (λ path. IsUnrun terms (files path) → IsOneOf (3 ∷ 6 ∷ []) status → idle)

    files_first : (terms : Terms) (paths : List (List ℕ)) → terms ≡ terms_of boxes words → paths ≡ files_of boxes words → EndsFiles terms Over paths idle now status → RestsFirst (terms_of boxes words) (files_of boxes words)
    files_first terms paths edge is e =
        subst (λ (ps : List (List ℕ)). RestsFirst (terms_of boxes words) ps) is (subst (λ (t : Terms). RestsFirst t paths) edge (first_idle terms Over idle now status (λ (p : List ℕ). IsUnrun terms (files p)) (unrun terms) paths e))

    none_first : (wish : Option Wish) (P : List ℕ → Type 0) → asked boxes words ≡ wish → files_asked wish ≡ [] → IfFirst (files_of boxes words) P
    none_first wish P is none = subst (λ (ps : List (List ℕ)). IfFirst ps P) (sym none ∙ named_by boxes words wish is) tt

    rests_one : EndsWords boxes words Over idle before now status → RestsFirst (terms_of boxes words) (files_of boxes words)
    rests_one (misused none rests text is) = none_first None _ none refl
    rests_one (tested choices engines paths is e) =
        let wish = Some (test choices engines paths) in files_first (terms_in choices engines) paths (terms_by boxes words wish is) (named_by boxes words wish is) e
    rests_one (queried choices engines grid instant file expr is e) =
        let wish = Some (query choices engines (moments_in grid instant) file expr) in files_first (terms_in choices engines) (file ∷ []) (terms_by boxes words wish is) (named_by boxes words wish is) e
    rests_one (worked choices engines series is e) = none_first (Some (workload choices engines series)) _ is refl
    rests_one (printed asks one) = none_first (asked boxes words) _ refl (none_printed (asked boxes words) asks)

    files_missing : (terms : Terms) (paths : List (List ℕ)) → paths ≡ files_of boxes words → EndsFiles terms Over paths idle now status → IfFirst (files_of boxes words) (λ path. files path ≡ None → IsOneOf (3 ∷ []) status)
    files_missing terms paths is e =
        subst (λ (ps : List (List ℕ)). IfFirst ps (λ path. files path ≡ None → IsOneOf (3 ∷ []) status)) is (first_missing terms Over idle now status (λ (p : List ℕ). files p ≡ None) some_there paths e)

    missing_one : EndsWords boxes words Over idle before now status → IfFirst (files_of boxes words) (λ path. files path ≡ None → IsOneOf (3 ∷ []) status)
    missing_one (misused none rests text is) = none_first None _ none refl
    missing_one (tested choices engines paths is e) = files_missing (terms_in choices engines) paths (named_by boxes words (Some (test choices engines paths)) is) e
    missing_one (queried choices engines grid instant file expr is e) =
        files_missing (terms_in choices engines) (file ∷ []) (named_by boxes words (Some (query choices engines (moments_in grid instant) file expr)) is) e
    missing_one (worked choices engines series is e) = none_first (Some (workload choices engines series)) _ is refl
    missing_one (printed asks one) = none_first (asked boxes words) _ refl (none_printed (asked boxes words) asks)

    -- what words need is there
    gone_never : (terms : Terms) → sound → (path : List ℕ) → IsThere terms files path → Over path None → ⊥
    gone_never terms s path there none = let unfit : files path ≡ None = none.if_sound s in let some = there.1 in cc

    refused_never : (terms : Terms) (path bytes : List ℕ) (refusal : Refusal) → IsThere terms files path → Over path (Some bytes) → IsRefusedFor terms bytes refusal → ⊥
    refused_never terms path bytes refusal there found why =
        let here : files path ≡ Some bytes = found.if_some in
        let same : there.0 ≡ bytes = let some = there.1 in cc in
        there.2 refusal (subst (λ (b : List ℕ). IsRefusedFor terms b refusal) (sym same) why)

    complete_files : (terms : Terms) → sound → (paths : List (List ℕ)) → AllByRecursion (IsThere terms files) paths → EndsFiles terms Over paths idle now status → IsOneOf (0 ∷ 1 ∷ []) status
    complete_files terms s paths each e = files_complete terms Over idle now status (IsThere terms files) (gone_never terms s) (refused_never terms) paths each e

    complete_script : (terms : Terms) (series : ℕ) → IsTaken terms (workload_text series) → EndsFiles terms (Just (workload_text series)) (workload_path ∷ []) idle now status → IsOneOf (0 ∷ 1 ∷ []) status
    complete_script terms series taken e =
        files_complete terms (Just (workload_text series)) idle now status (λ path. IsTaken terms (workload_text series)) (λ path fine none. cc)
        (λ path bytes refusal fine here why. fine refusal (subst (λ (b : List ℕ). IsRefusedFor terms b refusal) (cc) why)) (workload_path ∷ []) (taken, tt) e

    complete_one : sound → EndsWords boxes words Over idle before now status → HasItsFiles (asked boxes words) files → IsOneOf (0 ∷ 1 ∷ []) status
    complete_one s (misused none rests text is) has = absurd (subst (λ (w : Option Wish). HasItsFiles w files) none has)
    complete_one s (tested choices engines paths is e) has = complete_files (terms_in choices engines) s paths (subst (λ (w : Option Wish). HasItsFiles w files) is has) e
    complete_one s (queried choices engines grid instant file expr is e) has = complete_files (terms_in choices engines) s (file ∷ []) (subst (λ (w : Option Wish). HasItsFiles w files) is has, tt) e
    complete_one s (worked choices engines series is e) has = complete_script (terms_in choices engines) series (subst (λ (w : Option Wish). HasItsFiles w files) is has) e
    complete_one s (printed asks one) has = one

  module _ (sound : Type 0) (cases : (P : ℕ → Type 0) → P 0 → P 1 → P 2 → P 3 → P 6 → P status) where
    stops_widely : IsOneOf (3 ∷ 6 ∷ []) status → IsOneOf (3 ∷ 4 ∷ 5 ∷ 6 ∷ 7 ∷ []) status
    stops_widely one = cases (λ n. IsOneOf (3 ∷ 6 ∷ []) n → IsOneOf (3 ∷ 4 ∷ 5 ∷ 6 ∷ 7 ∷ []) n) (λ e. absurd (cc)) (λ e. absurd (cc)) (λ e. absurd (cc)) (λ e. refl) (λ e. refl) one

    three_widely : IsOneOf (3 ∷ []) status → IsOneOf (3 ∷ 4 ∷ 5 ∷ 7 ∷ []) status
    three_widely one = cases (λ n. IsOneOf (3 ∷ []) n → IsOneOf (3 ∷ 4 ∷ 5 ∷ 7 ∷ []) n) (λ e. absurd (cc)) (λ e. absurd (cc)) (λ e. absurd (cc)) (λ e. refl) (λ e. absurd (cc)) one

    ends_widely : IsOneOf (0 ∷ 1 ∷ []) status → IsOneOf (0 ∷ 1 ∷ 7 ∷ []) status
    ends_widely one = cases (λ n. IsOneOf (0 ∷ 1 ∷ []) n → IsOneOf (0 ∷ 1 ∷ 7 ∷ []) n) (λ e. refl) (λ e. refl) (λ e. absurd (cc)) (λ e. absurd (cc)) (λ e. absurd (cc)) one

    pub ended_outside : (told : Option (List ℕ → Option (List ℕ))) → EndsWords boxes words (IsFound told sound) idle before now status
        → IfSome told (λ files. (path : List ℕ) → Contains (files_of boxes words) path → IsUnrun (terms_of boxes words) (files path) → IsOneOf (3 ∷ 4 ∷ 5 ∷ 6 ∷ 7 ∷ []) status)
    ended_outside None e = tt
    ended_outside (Some files) e = λ path named unfit. stops_widely (outside_one sound files e path named unfit)

    pub ended_rests : (told : Option (List ℕ → Option (List ℕ))) → EndsWords boxes words (IsFound told sound) idle before now status
        → IfSome told (λ files. IfFirst (files_of boxes words) (λ path. IsUnrun (terms_of boxes words) (files path) → IsOneOf (3 ∷ 6 ∷ []) status → idle))
    ended_rests None e = tt
    ended_rests (Some files) e = rests_one sound files e

    widened : (paths : List (List ℕ)) (P : List ℕ → Type 0) → IfFirst paths (λ path. P path → IsOneOf (3 ∷ []) status) → IfFirst paths (λ path. P path → IsOneOf (3 ∷ 4 ∷ 5 ∷ 7 ∷ []) status)
    widened [] P h = tt
    widened (path ∷ paths) P h = λ p. three_widely (h p)

    pub ended_missing : (told : Option (List ℕ → Option (List ℕ))) → EndsWords boxes words (IsFound told sound) idle before now status
        → IfSome told (λ files. IfFirst (files_of boxes words) (λ path. files path ≡ None → IsOneOf (3 ∷ 4 ∷ 5 ∷ 7 ∷ []) status))
    ended_missing None e = tt
    ended_missing (Some files) e = widened (files_of boxes words) (λ path. files path ≡ None) (missing_one sound files e)

    pub ended_complete : (told : Option (List ℕ → Option (List ℕ))) (out_sound : Type 0) → EndsWords boxes words (IsFound told sound) idle before now status
        → IfSome told (λ files. sound → out_sound → HasItsFiles (asked boxes words) files → IsOneOf (0 ∷ 1 ∷ 7 ∷ []) status)
    ended_complete None out_sound e = tt
    ended_complete (Some files) out_sound e = λ s o has. ends_widely (complete_one sound files s e has)
