-- From what the matches hold to what the words ask for, and what holds of all that is asked for.
use Rattle.std.proofs.Common.{arith, ◌≡◌, ◌<◌, ◌≤◌, ◌∙◌, ℕ, Bool, true, false, cond, ap, refl, subst, sym, length, List, [], ◌∷◌, Option, None, Some, Result}
use Rattle.std.specs.Prelude.{String, ⊤, codes, map, pos, slice_get, string_bytes, option_and_then, option_map, IfOk, IfSome}
use Rattle.std.specs.Str.{bytes_eq}
use Rattle.std.proofs.lemmas.Slice.Eq.{bytes_eq-Decides}
use Rattle.std.proofs.lemmas.Result.{IfOk-weaker}
use Rattle.clap.specs.declared.parser.matches.ArgMatches.{ArgMatches}
use Rattle.tool_words.specs.Asked.{AsksForBatch, AsksForEdges, BatchesAreAskedFor, EdgesAreAskedFor, Wish, asked, batch_in, batch_of, choices_in, choices_of, closed_edges, edges_in, edges_named, edges_of, engines_in, explain, explain_at, explain_of, explain_worded, format, format_of, format_worded, if_grid, moments_of, query, query_at, query_of, query_worded, number_of, open_edges, opts_in, said_batch, test, test_at, test_of, test_worded, time_of, moment_at, range_of, unsaid, unsaid_batch, workload, workload_at, workload_of, workload_worded}
use Rattle.ticks.specs.Moments.{Moments, is_grid}
use Rattle.tool_words.specs.Engines.{AreDeclaredTo, Labels}
use Rattle.tool_words.specs.Said.{Item, Text, places_of, said, value_of}
use Rattle.tool_words.specs.Tells.{Holds, Tells}
use Rattle.tool_words.specs.Views.{AreInBatches, HasBatch, HasEngines, HasFiles, HasSeries, IsOneInstant, wish_of}
use Rattle.tool_words.specs.declared.asked.Asked.{Asked}
use Rattle.tool_words.specs.declared.asked.Asked.TheVariants as wanted
use Rattle.tool_words.specs.declared.asked.Choices.{Choices}
use Rattle.tool_words.specs.declared.asked.Optimisers.{Optimisers}
use Rattle.ticks.specs.declared.moment.Ms.{Ms}
use Rattle.tool_words.proofs.Counts.{number_counted, number_is, spelled_number}
use Rattle.tool_words.proofs.Declaring.{declared_to}

pub answered : {E : Type 0} (m : ArgMatches) (said : Option (List Item)) (r : Result (Option Asked) E) (of : List Item → Option Wish) → Tells (Some m) said
    → ((items : List Item) → Holds m items → IfOk r (λ asked. option_map wish_of asked ≡ of items)) → IfOk r (λ asked. option_map wish_of asked ≡ option_and_then of said)
answered m said r of tells judged =
    IfOk-weaker r _ _ (λ asked h. h ∙ sym (ap (option_and_then of) tells.1)) (judged tells.0 tells.2)

-- ---- what is asked for has files, an instant query has one instant, a workload has series, batches have instants, and engines may be
-- declared to the boxes

abbrev Alone : Moments → Type 0
Alone m = m.instant ≡ true → m.start ≡ m.end

abbrev Counted : ℕ → ℕ → Type 0
Counted most n = (0 < n) × (n ≤ most)

abbrev Sound : ℕ → Wish → Type 0
Sound boxes (test choices engines files) = AreInBatches choices × AreDeclaredTo boxes engines × (0 < length files)
Sound boxes (query choices engines moments file expr) = AreInBatches choices × AreDeclaredTo boxes engines × Alone moments
Sound boxes (workload choices engines count) = AreInBatches choices × AreDeclaredTo boxes engines × Counted 20000 count
Sound boxes (format expr) = ⊤
Sound boxes (explain optimisers engines expr) = AreDeclaredTo boxes engines

batch_counted : (value : Option Text) → IfSome (batch_of value) (Counted 1024)
batch_counted None = (omega arith, omega arith)
batch_counted (Some text) = number_counted 1024 text

choices_counted : (closed : Option Bool) (batch : Option ℕ) (optimisers : Option Optimisers) → IfSome batch (Counted 1024) → IfSome (choices_of closed batch optimisers) AreInBatches
choices_counted None batch optimisers few = tt
choices_counted (Some closed) None optimisers few = tt
choices_counted (Some closed) (Some batch) None few = tt
choices_counted (Some closed) (Some batch) (Some optimisers) few = few

chosen : (items : List Item) → IfSome (choices_in items) AreInBatches
chosen items = choices_counted (edges_in items) (batch_in items) (opts_in items) (batch_counted (value_of (codes "batch") items))

grid_alone : (m : Moments) → Alone m → IfSome (if_grid m) Alone
grid_alone m alone = go (is_grid m)
  where
    go : (b : Bool) → IfSome (cond b (Some m) None) Alone
    go true = alone
    go false = tt

at_once : (at : Ms) → IfSome (moment_at at) Alone
at_once at = grid_alone (record { start = at; end = at; step = record { 0 = pos 1 }; instant = true }) (λ e. refl)

moment_alone : (at : Option Ms) → IfSome (option_and_then moment_at at) Alone
moment_alone None = tt
moment_alone (Some at) = at_once at

range_alone : (start end step : Option Ms) → IfSome (range_of start end step) Alone
range_alone (Some start) (Some end) (Some step) =
    grid_alone (record { start = start; end = end; step = step; instant = false }) (λ e. absurd (let many : false ≡ true = e in cc))
range_alone _ _ _ = tt

moments_alone : (at from to step : Option Text) → IfSome (moments_of at from to step) Alone
moments_alone None None None None = at_once (record { 0 = pos 0 })
moments_alone (Some at) None None None = moment_alone (time_of at)
moments_alone None (Some from) (Some to) (Some step) = range_alone (time_of from) (time_of to) (time_of step)
moments_alone _ _ _ _ = tt

module _ (boxes : ℕ) where
  declared : (items : List Item) → IfSome (engines_in boxes items) (AreDeclaredTo boxes)
  declared items = declared_to boxes (value_of (codes "engines") items)

  module _ (choices : Choices) (few : AreInBatches choices) (engines : List Labels) (may : AreDeclaredTo boxes engines) where
    test_sound : (words : List Text) → IfSome (test_worded choices engines words) (Sound boxes)
    test_sound [] = tt
    test_sound (file ∷ files) = (few, may, omega arith)

    query_sound : (m : Moments) → Alone m → (words : List Text) → IfSome (query_worded choices engines m words) (Sound boxes)
    query_sound m alone (file ∷ expr ∷ []) = (few, may, alone)
    query_sound m alone _ = tt

    counted : (n : Option ℕ) → IfSome n (Counted 20000) → IfSome (option_map (workload choices engines) n) (Sound boxes)
    counted None h = tt
    counted (Some n) h = (few, may, h)

    workload_sound : (words : List Text) → IfSome (workload_worded choices engines words) (Sound boxes)
    workload_sound (count ∷ []) = counted (number_of 20000 count) (number_counted 20000 count)
    workload_sound _ = tt

  test_chosen : (choices : Option Choices) → IfSome choices AreInBatches → (engines : Option (List Labels)) → IfSome engines (AreDeclaredTo boxes) → (words : List Text)
      → IfSome (test_at choices engines words) (Sound boxes)
  test_chosen None few engines may words = tt
  test_chosen (Some choices) few None may words = tt
  test_chosen (Some choices) few (Some engines) may words = test_sound choices few engines may words

  query_chosen : (choices : Option Choices) → IfSome choices AreInBatches → (engines : Option (List Labels)) → IfSome engines (AreDeclaredTo boxes) → (m : Option Moments) → IfSome m Alone → (words : List Text)
      → IfSome (query_at choices engines m words) (Sound boxes)
  query_chosen None few engines may m alone words = tt
  query_chosen (Some choices) few None may m alone words = tt
  query_chosen (Some choices) few (Some engines) may None alone words = tt
  query_chosen (Some choices) few (Some engines) may (Some m) alone words = query_sound choices few engines may m alone words

  workload_chosen : (choices : Option Choices) → IfSome choices AreInBatches → (engines : Option (List Labels)) → IfSome engines (AreDeclaredTo boxes) → (words : List Text)
      → IfSome (workload_at choices engines words) (Sound boxes)
  workload_chosen None few engines may words = tt
  workload_chosen (Some choices) few None may words = tt
  workload_chosen (Some choices) few (Some engines) may words = workload_sound choices few engines may words

  format_sound : (words : List Text) → IfSome (format_worded words) (Sound boxes)
  format_sound (expr ∷ []) = tt
  format_sound _ = tt

  explain_sound : (optimisers : Optimisers) (engines : List Labels) → AreDeclaredTo boxes engines → (words : List Text) → IfSome (explain_worded optimisers engines words) (Sound boxes)
  explain_sound optimisers engines may (expr ∷ []) = may
  explain_sound optimisers engines may _ = tt

  explain_chosen : (optimisers : Option Optimisers) (engines : Option (List Labels)) → IfSome engines (AreDeclaredTo boxes) → (words : List Text) → IfSome (explain_at optimisers engines words) (Sound boxes)
  explain_chosen None engines may words = tt
  explain_chosen (Some optimisers) None may words = tt
  explain_chosen (Some optimisers) (Some engines) may words = explain_sound optimisers engines may words

  -- what the items of each command ask for
  pub tests_sound : (said : Option (List Item)) → IfSome (option_and_then (test_of boxes) said) (Sound boxes)
  tests_sound None = tt
  tests_sound (Some items) = test_chosen (choices_in items) (chosen items) (engines_in boxes items) (declared items) (places_of items)

  pub queries_sound : (said : Option (List Item)) → IfSome (option_and_then (query_of boxes) said) (Sound boxes)
  queries_sound None = tt
  queries_sound (Some items) = query_chosen (choices_in items) (chosen items) (engines_in boxes items) (declared items) _
      (moments_alone (value_of (codes "at") items) (value_of (codes "from") items) (value_of (codes "to") items) (value_of (codes "step") items)) (places_of items)

  pub workloads_sound : (said : Option (List Item)) → IfSome (option_and_then (workload_of boxes) said) (Sound boxes)
  workloads_sound None = tt
  workloads_sound (Some items) = workload_chosen (choices_in items) (chosen items) (engines_in boxes items) (declared items) (places_of items)

  pub formats_sound : (said : Option (List Item)) → IfSome (option_and_then format_of said) (Sound boxes)
  formats_sound None = tt
  formats_sound (Some items) = format_sound (places_of items)

  pub explains_sound : (said : Option (List Item)) → IfSome (option_and_then (explain_of boxes) said) (Sound boxes)
  explains_sound None = tt
  explains_sound (Some items) = explain_chosen (opts_in items) (engines_in boxes items) (declared items) (places_of items)

-- what an answer stands for is sound, so the answer is
module _ (boxes : ℕ) (w : Option Wish) (sound : IfSome w (Sound boxes)) where
  sound_too : (asked : Asked) → Some (wish_of asked) ≡ w → Sound boxes (wish_of asked)
  sound_too asked is = subst (λ (w : Option Wish). IfSome w (Sound boxes)) (sym is) sound

  has_files : (o : Option Asked) → option_map wish_of o ≡ w → IfSome o HasFiles
  has_files None is = tt
  has_files (Some (wanted.Test choices engines files)) is = (sound_too (wanted.Test choices engines files) is).2
  has_files (Some (wanted.Query choices engines grid instant file expr)) is = tt
  has_files (Some (wanted.Workload choices engines count)) is = tt
  has_files (Some (wanted.Format expr)) is = tt
  has_files (Some (wanted.Explain optimisers engines expr)) is = tt

  is_one_instant : (o : Option Asked) → option_map wish_of o ≡ w → IfSome o IsOneInstant
  is_one_instant None is = tt
  is_one_instant (Some (wanted.Test choices engines files)) is = tt
  is_one_instant (Some (wanted.Query choices engines grid instant file expr)) is = (sound_too (wanted.Query choices engines grid instant file expr) is).2
  is_one_instant (Some (wanted.Workload choices engines count)) is = tt
  is_one_instant (Some (wanted.Format expr)) is = tt
  is_one_instant (Some (wanted.Explain optimisers engines expr)) is = tt

  has_series : (o : Option Asked) → option_map wish_of o ≡ w → IfSome o HasSeries
  has_series None is = tt
  has_series (Some (wanted.Test choices engines files)) is = tt
  has_series (Some (wanted.Query choices engines grid instant file expr)) is = tt
  has_series (Some (wanted.Workload choices engines count)) is = (sound_too (wanted.Workload choices engines count) is).2
  has_series (Some (wanted.Format expr)) is = tt
  has_series (Some (wanted.Explain optimisers engines expr)) is = tt

  has_batch : (o : Option Asked) → option_map wish_of o ≡ w → IfSome o HasBatch
  has_batch None is = tt
  has_batch (Some (wanted.Test choices engines files)) is = (sound_too (wanted.Test choices engines files) is).0
  has_batch (Some (wanted.Query choices engines grid instant file expr)) is = (sound_too (wanted.Query choices engines grid instant file expr) is).0
  has_batch (Some (wanted.Workload choices engines count)) is = (sound_too (wanted.Workload choices engines count) is).0
  has_batch (Some (wanted.Format expr)) is = tt
  has_batch (Some (wanted.Explain optimisers engines expr)) is = tt

  has_engines : (o : Option Asked) → option_map wish_of o ≡ w → IfSome o (HasEngines boxes)
  has_engines None is = tt
  has_engines (Some (wanted.Test choices engines files)) is = (sound_too (wanted.Test choices engines files) is).1
  has_engines (Some (wanted.Query choices engines grid instant file expr)) is = (sound_too (wanted.Query choices engines grid instant file expr) is).1
  has_engines (Some (wanted.Workload choices engines count)) is = (sound_too (wanted.Workload choices engines count) is).1
  has_engines (Some (wanted.Format expr)) is = tt
  has_engines (Some (wanted.Explain optimisers engines expr)) is = sound_too (wanted.Explain optimisers engines expr) is

  pub some_files : {E : Type 0} (r : Result (Option Asked) E) → IfOk r (λ asked. option_map wish_of asked ≡ w) → IfOk r (λ asked. IfSome asked HasFiles)
  some_files r read = IfOk-weaker r _ _ has_files read

  pub one_instant : {E : Type 0} (r : Result (Option Asked) E) → IfOk r (λ asked. option_map wish_of asked ≡ w) → IfOk r (λ asked. IfSome asked IsOneInstant)
  one_instant r read = IfOk-weaker r _ _ is_one_instant read

  pub some_series : {E : Type 0} (r : Result (Option Asked) E) → IfOk r (λ asked. option_map wish_of asked ≡ w) → IfOk r (λ asked. IfSome asked HasSeries)
  some_series r read = IfOk-weaker r _ _ has_series read

  pub in_batches : {E : Type 0} (r : Result (Option Asked) E) → IfOk r (λ asked. option_map wish_of asked ≡ w) → IfOk r (λ asked. IfSome asked HasBatch)
  in_batches r read = IfOk-weaker r _ _ has_batch read

  pub engines_declared : {E : Type 0} (r : Result (Option Asked) E) → IfOk r (λ asked. option_map wish_of asked ≡ w) → IfOk r (λ asked. IfSome asked (HasEngines boxes))
  engines_declared r read = IfOk-weaker r _ _ has_engines read

-- ---- words that name no command

apart : (x y : Text) → (x ≡ y → ⊥) → bytes_eq x y ≡ false
apart x y other = go (bytes_eq x y) refl
  where
    go : (b : Bool) → bytes_eq x y ≡ b → bytes_eq x y ≡ false
    go true e = absurd (other ((bytes_eq-Decides x y).0 e))
    go false e = e

unnamed : (boxes : ℕ) (command : Text) (rest : List Text) → (command ≡ codes "promqltest" → ⊥) → (command ≡ codes "query" → ⊥)
    → (command ≡ codes "workload" → ⊥) → (command ≡ codes "format" → ⊥) → (command ≡ codes "explain" → ⊥) → None ≡ asked boxes (command ∷ rest)
unnamed boxes command rest no_test no_query no_workload no_format no_explain =
    rw (apart command (codes "promqltest") no_test, apart command (codes "query") no_query, apart command (codes "workload") no_workload, apart command (codes "format") no_format, apart command (codes "explain") no_explain) refl

pub no_command : {Z : Type 0} (boxes : ℕ) (words : List (String Z)) (first : String Z) (command : Text) → Some first ≡ slice_get words 0 → command ≡ string_bytes first
    → (command ≡ codes "promqltest" → ⊥) → (command ≡ codes "query" → ⊥) → (command ≡ codes "workload" → ⊥) → (command ≡ codes "format" → ⊥) → (command ≡ codes "explain" → ⊥) → None ≡ asked boxes (map string_bytes words)
no_command boxes [] first command is value no_test no_query no_workload no_format no_explain = absurd (cc)
no_command boxes (word ∷ words) first command is value no_test no_query no_workload no_format no_explain =
    let same : string_bytes word ≡ command = ap string_bytes (let e : word ≡ first = cc in e) ∙ sym value in
    unnamed boxes (string_bytes word) (map string_bytes words) (λ e. no_test (sym same ∙ e)) (λ e. no_query (sym same ∙ e)) (λ e. no_workload (sym same ∙ e)) (λ e. no_format (sym same ∙ e)) (λ e. no_explain (sym same ∙ e))

-- ---- the edges that are asked for

module _ (items : List Item) where
  named : (text : Text) (closed : Bool) → value_of (codes "edges") items ≡ Some text → edges_named text ≡ Some closed → AsksForEdges items closed
  named text closed there is = go (bytes_eq text (codes "v3")) (bytes_eq text (codes "v2")) refl refl is
    where
      go : (a b : Bool) → bytes_eq text (codes "v3") ≡ a → bytes_eq text (codes "v2") ≡ b → cond a (Some false) (cond b (Some true) None) ≡ Some closed → AsksForEdges items closed
      go true b e f is =
          let c : false ≡ closed = cc in
          subst (AsksForEdges items) c (open_edges (there ∙ ap Some ((bytes_eq-Decides text (codes "v3")).0 e)))
      go false true e f is =
          let c : true ≡ closed = cc in
          subst (AsksForEdges items) c (closed_edges (there ∙ ap Some ((bytes_eq-Decides text (codes "v2")).0 f)))
      go false false e f is = absurd (cc)

  told_by : (value : Option Text) (closed : Bool) → value_of (codes "edges") items ≡ value → edges_of value ≡ Some closed → AsksForEdges items closed
  told_by None closed there is = let c : false ≡ closed = cc in subst (AsksForEdges items) c (unsaid there)
  told_by (Some text) closed there is = named text closed there is

  asked_so : (closed : Bool) → AsksForEdges items closed → edges_in items ≡ Some closed
  asked_so false (unsaid there) = ap edges_of there
  asked_so false (open_edges there) = ap edges_of there
  asked_so true (closed_edges there) = ap edges_of there

pub edges_asked : EdgesAreAskedFor
edges_asked items closed = (told_by items (value_of (codes "edges") items) closed refl, asked_so items closed)

-- ---- the batch that is asked for

module _ (items : List Item) where
  batch_told : (value : Option Text) (batch : ℕ) → value_of (codes "batch") items ≡ value → batch_of value ≡ Some batch → AsksForBatch items batch
  batch_told None batch there is = let usual : 64 ≡ batch = cc in subst (AsksForBatch items) usual (unsaid_batch there)
  batch_told (Some text) batch there is =
      let few = subst (λ (n : Option ℕ). IfSome n (Counted 1024)) is (number_counted 1024 text) in
      said_batch batch few.0 few.1 (there ∙ ap Some (number_is 1024 text batch (omega arith) is))

  batch_asked : (batch : ℕ) → AsksForBatch items batch → batch_in items ≡ Some batch
  batch_asked batch (unsaid_batch there) = ap batch_of there
  batch_asked batch (said_batch count some few there) = ap batch_of there ∙ spelled_number 1024 count some few (omega arith)

pub batches_asked : BatchesAreAskedFor
batches_asked items batch = (batch_told items (value_of (codes "batch") items) batch refl, batch_asked items batch)
