use Rattle.std.proofs.Common.{◌≡◌, [], ◌∷◌, None, length, map, string_bytes, refl, arith, inr}
use Rattle.promql_tool.specs.Ends.{IsOneOf}
use Rattle.promql_tool.specs.Report.{files_of}
use Rattle.tool_words.specs.Asked.{asked}
use Rattle.promql_tool.proofs.EndedWords.{ended_complete, ended_gone, ended_idle, ended_made, ended_missing, ended_outside, ended_refused, ended_rests, ended_status, ended_usage, ended_words}
use Rattle.promql_tool.proofs.Ending.{boxes_cut, cut_alone, cut_reaches, cut_seven, cut_short, cut_sound, cut_status, cut_wrote, first_of, lost_last, made_each, stands_before, told_each}
use Rattle.promql_tool.proofs.Reported.{answers_told, gone_is, gone_told, is_report, refusal_is, reports_told}
use Rattle.promql_tool.proofs.Serving.{alone_sound, alone_tell}
use Rattle.promql_tool.proofs.tool.run_tool.Goals as goal

pub returns-in-Ok-clause-statuses : goal.returns-in-Ok-clause-statuses
returns-in-Ok-clause-statuses g c =
    ended_status _ _ _ _ _ _ _ c.in-Ok.ensures.came (IsOneOf (0 ∷ 1 ∷ 2 ∷ 3 ∷ 4 ∷ 5 ∷ 6 ∷ 7 ∷ [])) refl refl refl refl refl

pub returns-in-Err-clause-statuses : goal.returns-in-Err-clause-statuses
returns-in-Err-clause-statuses g c =
    cut_status c.in-Err.cut _ _ _ c.end_cut.ensures.ended (IsOneOf (0 ∷ 1 ∷ 2 ∷ 3 ∷ 4 ∷ 5 ∷ 6 ∷ 7 ∷ [])) refl refl refl

pub returns-in-Ok-clause-report : goal.returns-in-Ok-clause-report
returns-in-Ok-clause-report g c = λ tell.
    let e = c.in-Ok.ensures.ends tell in λ one. (e.0, is_report _ _ _ _ e.0 e.1, e.2)

pub returns-in-Err-clause-report : goal.returns-in-Err-clause-report
returns-in-Err-clause-report g c = λ tell one.
    absurd (cut_status c.in-Err.cut _ _ _ c.end_cut.ensures.ended (λ n. IsOneOf (0 ∷ 1 ∷ 2 ∷ 3 ∷ 6 ∷ []) n → ⊥) (λ h. cc) (λ h. cc) (λ h. cc) one)

pub returns-in-Ok-clause-report_told : goal.returns-in-Ok-clause-report_told
returns-in-Ok-clause-report_told g c = λ tell.
    let e = c.in-Ok.ensures.ends tell in reports_told _ _ _ _ _ _ _ (g.L.Library.told c.args.library.now) e.0 e.1 e.2

pub returns-in-Err-clause-report_told : goal.returns-in-Err-clause-report_told
returns-in-Err-clause-report_told g c = λ tell.
    told_each (g.L.Library.told c.args.library.now) _ (λ files one. absurd (cut_status c.in-Err.cut _ _ _ c.end_cut.ensures.ended (λ n. IsOneOf (0 ∷ 1 ∷ 2 ∷ 6 ∷ []) n → ⊥) (λ h. cc) (λ h. cc) (λ h. cc) one))

pub returns-in-Ok-clause-answered : goal.returns-in-Ok-clause-answered
returns-in-Ok-clause-answered g c = λ tell sound.
    let e = c.in-Ok.ensures.ends tell in answers_told _ _ _ _ _ _ _ (g.L.Library.told c.args.library.now) e.0 _ e.1 e.2

pub returns-in-Err-clause-answered : goal.returns-in-Err-clause-answered
returns-in-Err-clause-answered g c = λ tell sound.
    told_each (g.L.Library.told c.args.library.now) _ (λ files l s. inr (cut_seven _ c.in-Err.cut _ _ _ c.end_cut.ensures.ended c.in-Err.ensures.never (c.in-Err.ensures.sure tell sound) s))

pub returns-in-Ok-clause-complete : goal.returns-in-Ok-clause-complete
returns-in-Ok-clause-complete g c = λ tell sound.
    ended_complete _ _ _ _ _ _ _ (ended_status _ _ _ _ _ _ _ c.in-Ok.ensures.came) (g.L.Library.told c.args.library.now) _ c.in-Ok.ensures.came

pub returns-in-Err-clause-complete : goal.returns-in-Err-clause-complete
returns-in-Err-clause-complete g c = λ tell sound.
    told_each (g.L.Library.told c.args.library.now) _ (λ files l s has. rw (cut_seven _ c.in-Err.cut _ _ _ c.end_cut.ensures.ended c.in-Err.ensures.never (c.in-Err.ensures.sure tell sound) s) refl)

pub returns-in-Err-clause-reached : goal.returns-in-Err-clause-reached
returns-in-Err-clause-reached g c = λ tell.
    cut_reaches _ _ _ _ _ _ _ _ _ _ _ c.in-Err.cut c.end_cut.ensures.ended (c.in-Err.ensures.reached tell)

pub returns-in-Ok-clause-usage : goal.returns-in-Ok-clause-usage
returns-in-Ok-clause-usage g c =
    ended_usage _ _ _ _ _ _ _ c.in-Ok.ensures.came

pub returns-in-Err-clause-usage : goal.returns-in-Err-clause-usage
returns-in-Err-clause-usage g c = λ e.
    absurd (cut_status c.in-Err.cut _ _ _ c.end_cut.ensures.ended (λ n. n ≡ 2 → ⊥) (λ h. omega (arith, h)) (λ h. omega (arith, h)) (λ h. omega (arith, h)) e)

pub returns-in-Ok-clause-words : goal.returns-in-Ok-clause-words
returns-in-Ok-clause-words g c = λ none.
    rw (ended_words _ _ _ _ _ _ _ c.in-Ok.ensures.came none) refl

pub returns-in-Err-clause-words : goal.returns-in-Err-clause-words
returns-in-Err-clause-words g c = λ none.
    cut_alone c.in-Err.cut _ _ _ c.end_cut.ensures.ended (c.in-Err.ensures.sure (alone_tell (length c.args.engines.now.items) (map string_bytes c.args.words.now) None none (map (λ b. (goal.Engine-dyn g (b.vtable, b.value)).seen b.value) c.args.engines.now.items) refl) (alone_sound (length c.args.engines.now.items) (map string_bytes c.args.words.now) None none (map (λ b. (goal.Engine-dyn g (b.vtable, b.value)).seen b.value) c.args.engines.now.items) refl)) (IsOneOf (2 ∷ 4 ∷ 7 ∷ [])) refl refl

pub returns-in-Ok-clause-refusal_line : goal.returns-in-Ok-clause-refusal_line
returns-in-Ok-clause-refusal_line g c =
    ended_refused _ _ _ _ _ _ _ c.in-Ok.ensures.came

pub returns-in-Err-clause-refusal_line : goal.returns-in-Err-clause-refusal_line
returns-in-Err-clause-refusal_line g c = λ e.
    absurd (cut_status c.in-Err.cut _ _ _ c.end_cut.ensures.ended (λ n. n ≡ 6 → ⊥) (λ h. omega (arith, h)) (λ h. omega (arith, h)) (λ h. omega (arith, h)) e)

pub returns-in-Ok-clause-refused : goal.returns-in-Ok-clause-refused
returns-in-Ok-clause-refused g c = λ tell.
    let e = c.in-Ok.ensures.ends tell in refusal_is _ _ _ _ _ _ _ e.0 e.1 e.2

pub returns-in-Err-clause-refused : goal.returns-in-Err-clause-refused
returns-in-Err-clause-refused g c = λ tell e.
    absurd (cut_status c.in-Err.cut _ _ _ c.end_cut.ensures.ended (λ n. n ≡ 6 → ⊥) (λ h. omega (arith, h)) (λ h. omega (arith, h)) (λ h. omega (arith, h)) e)

pub returns-in-Ok-clause-outside : goal.returns-in-Ok-clause-outside
returns-in-Ok-clause-outside g c =
    ended_outside _ _ _ _ _ _ _ (ended_status _ _ _ _ _ _ _ c.in-Ok.ensures.came) (g.L.Library.told c.args.library.now) c.in-Ok.ensures.came

pub returns-in-Err-clause-outside : goal.returns-in-Err-clause-outside
returns-in-Err-clause-outside g c =
    let is = cut_status c.in-Err.cut _ _ _ c.end_cut.ensures.ended (IsOneOf (3 ∷ 4 ∷ 5 ∷ 6 ∷ 7 ∷ [])) refl refl refl in told_each (g.L.Library.told c.args.library.now) _ (λ files path named unfit. is)

pub returns-in-Ok-clause-made : goal.returns-in-Ok-clause-made
returns-in-Ok-clause-made g c =
    ended_made _ _ _ _ _ _ _ c.in-Ok.ensures.came

pub returns-in-Err-clause-made : goal.returns-in-Err-clause-made
returns-in-Err-clause-made g c =
    let is = cut_status c.in-Err.cut _ _ _ c.end_cut.ensures.ended (IsOneOf (4 ∷ 5 ∷ 6 ∷ 7 ∷ [])) refl refl refl in made_each (asked (length c.args.engines.now.items) (map string_bytes c.args.words.now)) _ (λ terms text never. is)

pub returns-in-Ok-clause-idle : goal.returns-in-Ok-clause-idle
returns-in-Ok-clause-idle g c =
    ended_idle _ _ _ _ _ _ _ c.in-Ok.ensures.came

pub returns-in-Err-clause-idle : goal.returns-in-Err-clause-idle
returns-in-Err-clause-idle g c = λ one few.
    absurd (cut_status c.in-Err.cut _ _ _ c.end_cut.ensures.ended (λ n. IsOneOf (2 ∷ 3 ∷ 6 ∷ []) n → ⊥) (λ h. cc) (λ h. cc) (λ h. cc) one)

pub returns-in-Ok-clause-idle_first : goal.returns-in-Ok-clause-idle_first
returns-in-Ok-clause-idle_first g c =
    ended_rests _ _ _ _ _ _ _ (ended_status _ _ _ _ _ _ _ c.in-Ok.ensures.came) (g.L.Library.told c.args.library.now) c.in-Ok.ensures.came

pub returns-in-Err-clause-idle_first : goal.returns-in-Err-clause-idle_first
returns-in-Err-clause-idle_first g c =
    told_each (g.L.Library.told c.args.library.now) _ (λ files. first_of (files_of (length c.args.engines.now.items) (map string_bytes c.args.words.now)) _ (λ path unfit one. absurd (cut_status c.in-Err.cut _ _ _ c.end_cut.ensures.ended (λ n. IsOneOf (3 ∷ 6 ∷ []) n → ⊥) (λ h. cc) (λ h. cc) (λ h. cc) one)))

pub returns-in-Err-clause-fetch : goal.returns-in-Err-clause-fetch
returns-in-Err-clause-fetch g c = λ e.
    absurd (cut_status c.in-Err.cut _ _ _ c.end_cut.ensures.ended (λ n. n ≡ 3 → ⊥) (λ h. omega (arith, h)) (λ h. omega (arith, h)) (λ h. omega (arith, h)) e)

pub returns-in-Ok-clause-gone_line : goal.returns-in-Ok-clause-gone_line
returns-in-Ok-clause-gone_line g c =
    ended_gone _ _ _ _ _ _ _ c.in-Ok.ensures.came

pub returns-in-Err-clause-gone_line : goal.returns-in-Err-clause-gone_line
returns-in-Err-clause-gone_line g c = λ e.
    absurd (cut_status c.in-Err.cut _ _ _ c.end_cut.ensures.ended (λ n. n ≡ 3 → ⊥) (λ h. omega (arith, h)) (λ h. omega (arith, h)) (λ h. omega (arith, h)) e)

pub returns-in-Ok-clause-fault_line : goal.returns-in-Ok-clause-fault_line
returns-in-Ok-clause-fault_line g c = λ tell.
    let e = c.in-Ok.ensures.ends tell in gone_is _ _ _ _ _ _ _ e.0 e.1 e.2

pub returns-in-Err-clause-fault_line : goal.returns-in-Err-clause-fault_line
returns-in-Err-clause-fault_line g c = λ tell e.
    absurd (cut_status c.in-Err.cut _ _ _ c.end_cut.ensures.ended (λ n. n ≡ 3 → ⊥) (λ h. omega (arith, h)) (λ h. omega (arith, h)) (λ h. omega (arith, h)) e)

pub returns-in-Ok-clause-there : goal.returns-in-Ok-clause-there
returns-in-Ok-clause-there g c = λ tell.
    let e = c.in-Ok.ensures.ends tell in gone_told _ _ _ _ _ _ _ (g.L.Library.told c.args.library.now) e.0 e.1 e.2

pub returns-in-Err-clause-there : goal.returns-in-Err-clause-there
returns-in-Err-clause-there g c = λ tell.
    told_each (g.L.Library.told c.args.library.now) _ (λ files s e. absurd (cut_status c.in-Err.cut _ _ _ c.end_cut.ensures.ended (λ n. n ≡ 3 → ⊥) (λ h. omega (arith, h)) (λ h. omega (arith, h)) (λ h. omega (arith, h)) e))

pub returns-in-Ok-clause-missing : goal.returns-in-Ok-clause-missing
returns-in-Ok-clause-missing g c =
    ended_missing _ _ _ _ _ _ _ (ended_status _ _ _ _ _ _ _ c.in-Ok.ensures.came) (g.L.Library.told c.args.library.now) c.in-Ok.ensures.came

pub returns-in-Err-clause-missing : goal.returns-in-Err-clause-missing
returns-in-Err-clause-missing g c =
    let is = cut_status c.in-Err.cut _ _ _ c.end_cut.ensures.ended (IsOneOf (3 ∷ 4 ∷ 5 ∷ 7 ∷ [])) refl refl refl in told_each (g.L.Library.told c.args.library.now) _ (λ files. first_of (files_of (length c.args.engines.now.items) (map string_bytes c.args.words.now)) _ (λ path none. is))

pub returns-in-Ok-clause-write : goal.returns-in-Ok-clause-write
returns-in-Ok-clause-write g c = λ e.
    absurd (ended_status _ _ _ _ _ _ _ c.in-Ok.ensures.came (λ n. n ≡ 4 → ⊥) (λ h. omega (arith, h)) (λ h. omega (arith, h)) (λ h. omega (arith, h)) (λ h. omega (arith, h)) (λ h. omega (arith, h)) e)

pub returns-in-Err-clause-write : goal.returns-in-Err-clause-write
returns-in-Err-clause-write g c =
    cut_wrote _ _ _ c.in-Err.cut _ _ _ c.end_cut.ensures.ended c.in-Err.ensures.cause c.end_cut.ensures.cause

pub returns-in-Ok-clause-sound : goal.returns-in-Ok-clause-sound
returns-in-Ok-clause-sound g c = λ s e.
    absurd (ended_status _ _ _ _ _ _ _ c.in-Ok.ensures.came (λ n. n ≡ 4 → ⊥) (λ h. omega (arith, h)) (λ h. omega (arith, h)) (λ h. omega (arith, h)) (λ h. omega (arith, h)) (λ h. omega (arith, h)) e)

pub returns-in-Err-clause-sound : goal.returns-in-Err-clause-sound
returns-in-Err-clause-sound g c =
    cut_sound _ _ c.in-Err.cut _ _ _ c.end_cut.ensures.ended c.run_words.ensures.sound c.in-Err.ensures.never c.end_cut.ensures.never

pub returns-in-Ok-clause-cut : goal.returns-in-Ok-clause-cut
returns-in-Ok-clause-cut g c = λ tell one.
    absurd (ended_status _ _ _ _ _ _ _ c.in-Ok.ensures.came (λ n. IsOneOf (4 ∷ 7 ∷ []) n → ⊥) (λ h. cc) (λ h. cc) (λ h. cc) (λ h. cc) (λ h. cc) one)

pub returns-in-Err-clause-cut : goal.returns-in-Err-clause-cut
returns-in-Err-clause-cut g c = λ tell.
    cut_short _ _ _ _ _ _ _ c.in-Err.cut c.end_cut.ensures.ended (c.in-Err.ensures.ends tell) (c.in-Err.ensures.stopped tell)

pub returns-in-Ok-clause-engine_fault : goal.returns-in-Ok-clause-engine_fault
returns-in-Ok-clause-engine_fault g c = λ e.
    absurd (ended_status _ _ _ _ _ _ _ c.in-Ok.ensures.came (λ n. n ≡ 5 → ⊥) (λ h. omega (arith, h)) (λ h. omega (arith, h)) (λ h. omega (arith, h)) (λ h. omega (arith, h)) (λ h. omega (arith, h)) e)

pub returns-in-Err-clause-engine_fault : goal.returns-in-Err-clause-engine_fault
returns-in-Err-clause-engine_fault g c =
    lost_last _ _ _ _ _ c.in-Err.cut c.end_cut.ensures.ended c.in-Err.ensures.boxes

pub returns-in-Ok-clause-before : goal.returns-in-Ok-clause-before
returns-in-Ok-clause-before g c = λ tell e.
    absurd (ended_status _ _ _ _ _ _ _ c.in-Ok.ensures.came (λ n. n ≡ 5 → ⊥) (λ h. omega (arith, h)) (λ h. omega (arith, h)) (λ h. omega (arith, h)) (λ h. omega (arith, h)) (λ h. omega (arith, h)) e)

pub returns-in-Err-clause-before : goal.returns-in-Err-clause-before
returns-in-Err-clause-before g c = λ tell.
    stands_before _ _ _ _ _ _ _ _ _ c.in-Err.cut c.end_cut.ensures.ended (c.in-Err.ensures.stopped tell) c.in-Err.ensures.boxes

pub returns-in-Ok-clause-boxes : goal.returns-in-Ok-clause-boxes
returns-in-Ok-clause-boxes g c = λ one.
    c.in-Ok.ensures.boxes

pub returns-in-Err-clause-boxes : goal.returns-in-Err-clause-boxes
returns-in-Err-clause-boxes g c = λ one.
    absurd (cut_status c.in-Err.cut _ _ _ c.end_cut.ensures.ended (λ n. IsOneOf (0 ∷ 1 ∷ 2 ∷ 3 ∷ 6 ∷ []) n → ⊥) (λ h. cc) (λ h. cc) (λ h. cc) one)

pub returns-in-Ok-clause-boxes_cut : goal.returns-in-Ok-clause-boxes_cut
returns-in-Ok-clause-boxes_cut g c = λ one.
    absurd (ended_status _ _ _ _ _ _ _ c.in-Ok.ensures.came (λ n. IsOneOf (4 ∷ 7 ∷ []) n → ⊥) (λ h. cc) (λ h. cc) (λ h. cc) (λ h. cc) (λ h. cc) one)

pub returns-in-Err-clause-boxes_cut : goal.returns-in-Err-clause-boxes_cut
returns-in-Err-clause-boxes_cut g c = λ one.
    boxes_cut _ _ c.in-Err.cut c.in-Err.ensures.boxes

pub returns-in-Ok-clause-none_declared : goal.returns-in-Ok-clause-none_declared
returns-in-Ok-clause-none_declared g c = λ none e.
    absurd (ended_status _ _ _ _ _ _ _ c.in-Ok.ensures.came (λ n. n ≡ 5 → ⊥) (λ h. omega (arith, h)) (λ h. omega (arith, h)) (λ h. omega (arith, h)) (λ h. omega (arith, h)) (λ h. omega (arith, h)) e)

pub returns-in-Ok-clause-sound_boxes : goal.returns-in-Ok-clause-sound_boxes
returns-in-Ok-clause-sound_boxes g c = λ tell sound e.
    absurd (ended_status _ _ _ _ _ _ _ c.in-Ok.ensures.came (λ n. n ≡ 5 → ⊥) (λ h. omega (arith, h)) (λ h. omega (arith, h)) (λ h. omega (arith, h)) (λ h. omega (arith, h)) (λ h. omega (arith, h)) e)

pub returns-in-Err-clause-none_declared : goal.returns-in-Err-clause-none_declared
returns-in-Err-clause-none_declared g c = λ none e.
    absurd (cut_alone c.in-Err.cut _ _ _ c.end_cut.ensures.ended (c.in-Err.ensures.sure (alone_tell (length c.args.engines.now.items) (map string_bytes c.args.words.now) _ refl (map (λ b. (goal.Engine-dyn g (b.vtable, b.value)).seen b.value) c.args.engines.now.items) none) (alone_sound (length c.args.engines.now.items) (map string_bytes c.args.words.now) _ refl (map (λ b. (goal.Engine-dyn g (b.vtable, b.value)).seen b.value) c.args.engines.now.items) none)) (λ n. n ≡ 5 → ⊥) (λ h. omega (arith, h)) (λ h. omega (arith, h)) e)

pub returns-in-Err-clause-sound_boxes : goal.returns-in-Err-clause-sound_boxes
returns-in-Err-clause-sound_boxes g c = λ tell sound e.
    absurd (cut_alone c.in-Err.cut _ _ _ c.end_cut.ensures.ended (c.in-Err.ensures.sure tell sound) (λ n. n ≡ 5 → ⊥) (λ h. omega (arith, h)) (λ h. omega (arith, h)) e)
