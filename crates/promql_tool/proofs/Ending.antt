-- How a run ends that was cut off.
use Rattle.std.proofs.Common.{◌≡◌, ◌∙◌, ◌++◌, ◌⊎◌, ℕ, List, [], ◌∷◌, Option, None, Some, IfSome, Err, refl, sym, ap, subst, inl, inr, arith, append_assoc, ⊎_elim}
use Rattle.std.specs.Prelude.{IsErrOf}
use Rattle.edge_io.specs.Causes.{HasCause, Rose}
use Rattle.edge_io.specs.Fronts.{appended-appended, front_last}
use Rattle.edge_io.specs.Written.{appended, WroteFront}
use Rattle.remote_api.specs.Seen.{EngineSeen}
use Rattle.tool_words.specs.Asked.{Wish, explain, format, query, test, workload}
use Rattle.promql_tool.specs.Boxes.{EndsCut, HasLostOne, IfLost, IfWritten, IsLostLast, KeepsBoxes, LeavesBoxes, LosesNone}
use Rattle.promql_tool.specs.Chosen.{Terms, terms_in}
use Rattle.promql_tool.specs.Ends.{IfFirst, IfMade, IsCut, IsOneOf, IsStoppedWords, losing}
use Rattle.promql_tool.specs.Reached.{Reaches, ReachesFiles, StopsAt, WroteTheir, files, no_file, no_memory, one_file, status_of, undeclared, up_to, whole}
use Rattle.promql_tool.specs.Files.{JudgedFile, files_text}
use Rattle.promql_tool.specs.Standing.{StandsBefore}
use Rattle.promql_tool.specs.Texts.{lost_text}
use Rattle.promql_tool.specs.Workload.{workload_text}
use Rattle.promql_tool.specs.declared.fault.Cut.{Cut}
use Rattle.promql_tool.specs.declared.fault.Cut.TheVariants as cut
use Rattle.promql_tool.specs.declared.fault.Lost.{Lost}
use Rattle.promql_tool.specs.declared.print.Status.{Status}
use Rattle.promql_tool.proofs.BoxLists.{rose_after, rose_before}

-- ---- statuses

-- a run that was cut off is of status 4, 5 or 7
pub cut_status : (why : Cut) (mid now : Option (List ℕ)) (status : ℕ) → EndsCut why mid now status → (P : ℕ → Type 0) → P 4 → P 5 → P 7 → P status
cut_status cut.Write mid now status e P p4 p5 p7 = subst P (sym e.0) p4
cut_status cut.Memory mid now status e P p4 p5 p7 = subst P (sym e.0) p7
cut_status (cut.Lost lost) mid now status e P p4 p5 p7 = ⊎_elim (λ told. subst P (sym told.0) p5) (λ short. ⊎_elim (λ four. subst P (sym four) p4) (λ seven. subst P (sym seven) p7) short.0) e

-- and of 4 or 7 where no engine was lost
pub cut_alone : (why : Cut) (mid now : Option (List ℕ)) (status : ℕ) → EndsCut why mid now status → LosesNone {T = Status} (Err why) → (P : ℕ → Type 0) → P 4 → P 7 → P status
cut_alone cut.Write mid now status e none P p4 p7 = subst P (sym e.0) p4
cut_alone cut.Memory mid now status e none P p4 p7 = subst P (sym e.0) p7
cut_alone (cut.Lost lost) mid now status e none P p4 p7 = absurd none

-- what holds of each holds of those that are told
pub told_each : (told : Option (List ℕ → Option (List ℕ))) (P : (List ℕ → Option (List ℕ)) → Type 0) → ((files : List ℕ → Option (List ℕ)) → P files) → IfSome told P
told_each None P each = tt
told_each (Some those) P each = each those

-- what holds of each holds of the first
pub first_of : (paths : List (List ℕ)) (P : List ℕ → Type 0) → ((path : List ℕ) → P path) → IfFirst paths P
first_of [] P each = tt
first_of (path ∷ paths) P each = each path

-- what holds of each script holds of that of a workload
pub made_each : (wish : Option Wish) (P : Terms → List ℕ → Type 0) → ((terms : Terms) (text : List ℕ) → P terms text) → IfMade wish P
made_each None P each = tt
made_each (Some (test choices engines paths)) P each = tt
made_each (Some (query choices engines moments path expr)) P each = tt
made_each (Some (workload choices engines series)) P each = each (terms_in choices engines) (workload_text series)
made_each (Some (format expr)) P each = tt
made_each (Some (explain optimisers engines expr)) P each = tt

five_not : (status : ℕ) → status ≡ 5 → IsOneOf (4 ∷ 7 ∷ []) status → ⊥
five_not status five one = let h = subst (IsOneOf (4 ∷ 7 ∷ [])) five one in cc

-- ---- boxes

-- the line of an engine that was lost was written
lost_written : (lost : Lost) (mid now : Option (List ℕ)) (status : ℕ) → EndsCut (cut.Lost lost) mid now status → status ≡ 5 → now ≡ appended mid (lost_text lost)
lost_written lost mid now status e five = ⊎_elim (λ told. told.1) (λ short. absurd (⊎_elim (λ four. omega (arith, four, five)) (λ seven. omega (arith, seven, five)) short.0)) e

-- 5
pub lost_last : (es fs : List EngineSeen) (mid now : Option (List ℕ)) (status : ℕ) (why : Cut) → EndsCut why mid now status → LeavesBoxes {T = Status} (Err why) es fs → status ≡ 5 → IsLostLast es fs now
lost_last es fs mid now status cut.Write e h five = absurd (omega (arith, e.0, five))
lost_last es fs mid now status cut.Memory e h five = absurd (omega (arith, e.0, five))
lost_last es fs mid now status (cut.Lost lost) e h five = (lost, h, (mid, lost_written lost mid now status e five))

-- 4 and 7
pub boxes_cut : (es fs : List EngineSeen) (why : Cut) → LeavesBoxes {T = Status} (Err why) es fs → KeepsBoxes es fs ⊎ HasLostOne es fs
boxes_cut es fs cut.Write h = inl h
boxes_cut es fs cut.Memory h = inl h
boxes_cut es fs (cut.Lost lost) h = inr (lost, h)

-- ---- what was written

module _ (boxes : ℕ) (words : List (List ℕ)) (found : List ℕ → Option (List ℕ) → Type 0) (before mid now : Option (List ℕ)) (status : ℕ) where
  pub cut_short : (why : Cut) → EndsCut why mid now status → IsCut boxes words found before mid → IfLost {T = Status} (Err why) (λ _. IsStoppedWords boxes words found before mid) → IsOneOf (4 ∷ 7 ∷ []) status → IsCut boxes words found before now
  cut_short cut.Write e c s one = subst (IsCut boxes words found before) (sym e.1) c
  cut_short cut.Memory e c s one = subst (IsCut boxes words found before) (sym e.1) c
  cut_short (cut.Lost lost) e c s one = losing s.text lost s.first (front_last s.text (lost_text lost) s.written front)
    where
      front : WroteFront mid now (lost_text lost)
      front = ⊎_elim (λ told. absurd (five_not status told.0 one)) (λ short. short.1) e

  pub stands_before : (es fs : List EngineSeen) (why : Cut) → EndsCut why mid now status → IfLost {T = Status} (Err why) (λ _. IsStoppedWords boxes words found before mid) → LeavesBoxes {T = Status} (Err why) es fs → status ≡ 5
      → StandsBefore boxes words found es fs before now
  stands_before es fs cut.Write e s h five = absurd (omega (arith, e.0, five))
  stands_before es fs cut.Memory e s h five = absurd (omega (arith, e.0, five))
  stands_before es fs (cut.Lost lost) e s h five =
      record {
        lost = lost;
        one = h;
        text = s.text;
        first = s.first;
        written = lost_written lost mid now status e five ∙ ap (λ (w : Option (List ℕ)). appended w (lost_text lost)) s.written ∙ appended-appended before s.text (lost_text lost);
      }

-- ---- how far it came

module _ {L : Type 0} (fetch : L → List ℕ → L → Type 0) (boxes : ℕ) (words : List (List ℕ)) (found : List ℕ → Option (List ℕ) → Type 0) (library_before library_now : L) (before mid now : Option (List ℕ)) (idle : Type 0) (status : ℕ) where
  module _ (more : List ℕ) (is : now ≡ appended mid more) (cases : (P : ℕ → Type 0) → P 4 → P 5 → P 7 → P status) where
    wrote_on : (judged : List JudgedFile) → WroteTheir judged before mid → WroteTheir judged before now
    wrote_on judged w = record {
      more = w.more ++ more;
      is = is ∙ ap (λ (x : Option (List ℕ)). appended x more) w.is ∙ appended-appended before (files_text judged ++ w.more) more ∙ ap (appended before) (append_assoc (files_text judged) w.more more);
    }

    stops_on : (terms : Terms) (path : List ℕ) → StopsAt terms found path status
    stops_on terms path = record {
      gone = λ three. absurd (cases (λ n. n ≡ 3 → ⊥) (λ e. omega (arith, e)) (λ e. omega (arith, e)) (λ e. omega (arith, e)) three);
      refused = λ six. absurd (cases (λ n. n ≡ 6 → ⊥) (λ e. omega (arith, e)) (λ e. omega (arith, e)) (λ e. omega (arith, e)) six);
      is = cases (IsOneOf (3 ∷ 4 ∷ 5 ∷ 6 ∷ 7 ∷ [])) refl refl refl;
    }

    never_stops : IsOneOf (3 ∷ 6 ∷ []) status → ⊥
    never_stops one = cases (λ n. IsOneOf (3 ∷ 6 ∷ []) n → ⊥) (λ e. cc) (λ e. cc) (λ e. cc) one

    files_on : (terms : Terms) (paths : List (List ℕ)) → ReachesFiles fetch terms found paths library_before library_now before mid idle 5 → ReachesFiles fetch terms found paths library_before library_now before now idle status
    files_on terms paths (whole judged names are fetched wrote ended) = absurd (cc)
    files_on terms paths (up_to judged path later names are fetched wrote stops rests) =
        up_to judged path later names are fetched (wrote_on judged wrote) (stops_on terms path) (λ stopped none. absurd (never_stops stopped))

    reached_on : Reaches fetch boxes words found library_before library_now before mid idle 5 → Reaches fetch boxes words found library_before library_now before now idle status
    reached_on (no_file none same) = no_file none same
    reached_on (no_memory seven same unwritten) = absurd (omega (arith, seven))
    reached_on (undeclared one same) = undeclared (cases (IsOneOf (4 ∷ 5 ∷ 7 ∷ [])) refl refl refl) same
    reached_on (one_file choices engines grid instant path expr asks fetched) = one_file choices engines grid instant path expr asks fetched
    reached_on (files choices engines paths asks r) = files choices engines paths asks (files_on (terms_in choices engines) paths r)

  pub cut_reaches : (why : Cut) → EndsCut why mid now status → Reaches fetch boxes words found library_before library_now before mid idle (status_of (Err why)) → Reaches fetch boxes words found library_before library_now before now idle status
  cut_reaches cut.Write e r = subst (λ (n : ℕ). Reaches fetch boxes words found library_before library_now before now idle n) (sym e.0) (subst (λ (w : Option (List ℕ)). Reaches fetch boxes words found library_before library_now before w idle 4) (sym e.1) r)
  cut_reaches cut.Memory e r = subst (λ (n : ℕ). Reaches fetch boxes words found library_before library_now before now idle n) (sym e.0) (subst (λ (w : Option (List ℕ)). Reaches fetch boxes words found library_before library_now before w idle 7) (sym e.1) r)
  cut_reaches (cut.Lost lost) e r =
      let cases = cut_status (cut.Lost lost) mid now status e in
      ⊎_elim (λ told. reached_on (lost_text lost) told.1 cases r) (λ short. reached_on short.1.front short.1.took cases r) e

-- ---- counts

-- a write that failed counts
pub cut_wrote : (before mid now : ℕ) (why : Cut) (w x : Option (List ℕ)) (status : ℕ) → EndsCut why w x status → HasCause before mid (IsErrOf {T = Status} (Err why) cut.Write) → HasCause mid now (IfWritten why (status ≡ 4)) → status ≡ 4 → Rose before now
cut_wrote before mid now cut.Write w x status e a b four = rose_after before mid now (a.rose refl) b.later
cut_wrote before mid now cut.Memory w x status e a b four = absurd (omega (arith, e.0, four))
cut_wrote before mid now (cut.Lost lost) w x status e a b four = rose_before before mid now a.later (b.rose four)

-- no write fails of a sound sink
pub cut_sound : (Sound Later : Type 0) (why : Cut) (w x : Option (List ℕ)) (status : ℕ) → EndsCut why w x status → (Sound → Later) → (Sound → IsErrOf {T = Status} (Err why) cut.Write → ⊥) → (Later → IfWritten why (status ≡ 4) → ⊥) → Sound → status ≡ 4 → ⊥
cut_sound Sound Later cut.Write w x status e stays never later s four = never s refl
cut_sound Sound Later cut.Memory w x status e stays never later s four = omega (arith, e.0, four)
cut_sound Sound Later (cut.Lost lost) w x status e stays never later s four = later (stays s) four

-- ---- where nothing can fail

-- where the sink is sound and no engine was lost, memory ran out
pub cut_seven : (Sound : Type 0) (why : Cut) (w x : Option (List ℕ)) (status : ℕ) → EndsCut why w x status → (Sound → IsErrOf {T = Status} (Err why) cut.Write → ⊥) → LosesNone {T = Status} (Err why) → Sound → status ≡ 7
cut_seven Sound cut.Write w x status e never none s = absurd (never s refl)
cut_seven Sound cut.Memory w x status e never none s = e.0
cut_seven Sound (cut.Lost lost) w x status e never none s = absurd none
