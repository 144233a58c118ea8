-- What is kept of one engine. (This project's own.)
use Rattle.std.specs.Prelude.{List, [], ◌∷◌, ◌++◌, Option, Some, None, not, nat_lt, length, Bool, true, false, ◌&&◌}
use Rattle.step_table.specs.declared.cells.StepCells.{StepCells}
use Rattle.ticks.specs.declared.moment.Ms.{Ms}
use Rattle.op_gather.specs.declared.queue.Queue.{Queue}

-- nothing of an engine that delivers this instant first
abbrev pub nothing_of : Option Ms → Queue
nothing_of first = record { frames = []; next = first; ended = false }

-- the steps of frames, in order
abbrev pub steps_in : List (List StepCells) → List StepCells
steps_in [] = []
steps_in (frame ∷ frames) = frame ++ steps_in frames

abbrev pub first_in : List StepCells → Option StepCells
first_in [] = None
first_in (step ∷ steps) = Some step

abbrev pub first_step : List (List StepCells) → Option StepCells
first_step [] = None
first_step (frame ∷ frames) = first_in frame

-- the first step is taken out of a frame that stands before others; a frame is kept until its last step is taken
abbrev pub rest_of : List StepCells → List (List StepCells) → List (List StepCells)
rest_of [] frames = frames
rest_of (step ∷ []) frames = frames
rest_of (step ∷ next ∷ steps) frames = (next ∷ steps) ∷ frames

abbrev pub without_first : List (List StepCells) → List (List StepCells)
without_first [] = []
without_first (frame ∷ frames) = rest_of frame frames

-- the step of an engine that is taken next, where it is kept
abbrev pub head_of : Queue → Option StepCells
head_of queue = first_step queue.frames

abbrev pub popped : Queue → Queue
popped queue = record queue { frames = without_first queue.frames }

-- a frame is kept behind the others, with the instant behind it
abbrev pub fed : Queue → List StepCells → Option Ms → Queue
fed queue steps behind = record queue { frames = queue.frames ++ steps ∷ []; next = behind }

abbrev pub ended : Queue → Queue
ended queue = record queue { ended = true }

-- it hasn't ended, and fewer than four of its frames are kept
abbrev pub has_room : Queue → Bool
has_room queue = not queue.ended && nat_lt (length queue.frames) 4
