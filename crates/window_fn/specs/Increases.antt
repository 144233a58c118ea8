-- rate, increase and delta: the change from the first sample of a window to its last, carried on to the window's edges. (Prometheus' extrapolation; the order of its operations on exact numbers, and so where it overflows, is this project's own.)
use Rattle.std.specs.Prelude.{◌-◌, pos, ◌-ℤ◌, Bool, true, ◌&&◌, List, [], ◌∷◌, length, map, filter, Result, Ok, if◌then◌else◌}
use Rattle.xfrac.specs.Arithmetic.{arithmetic, whole_number}
use Rattle.xfrac.specs.Forming.{negated}
use Rattle.xfrac.specs.Order.{compares}
use Rattle.xfrac.specs.Sequencing.{◌>>=◌}
use Rattle.xfrac.specs.declared.value.ArithOp.TheVariants.{Add, Mul, Div}
use Rattle.xfrac.specs.declared.value.CompareOp.TheVariants.{Lt, Gt, Ge}
use Rattle.xfrac.specs.declared.value.NumFault.{NumFault}
use Rattle.xfrac.specs.declared.value.XFrac.{XFrac}
use Rattle.xfrac.specs.declared.value.XFrac.TheVariants.{Fin}
use Rattle.ticks.specs.declared.moment.Ms.{Ms}
use Rattle.window_fn.specs.declared.frame.WindowFrame.{WindowFrame}
use Rattle.window_fn.specs.declared.increases.Layout.{Layout}
use Rattle.window_fn.specs.Aggregates.{total}
use Rattle.window_fn.specs.Points.{first_of, last_of, begun, ended, milliseconds, in_seconds, neighbours}

-- ---- the change

-- what a counter stood at before each reset: each value that the next one is below
abbrev pub lost : List XFrac → List XFrac
lost values = map (λ p. p.0) (filter (λ p. compares Lt p.1 p.0) (neighbours values))

-- what is added up to the change from the first value to the last; a counter's resets are made good
abbrev pub parts_of_change : Bool → List XFrac → List XFrac
parts_of_change is_counter values =
    last_of values ∷ negated (first_of values) ∷ (if is_counter then lost values else [])

abbrev pub change : Bool → List XFrac → Result XFrac NumFault
change is_counter values = total (parts_of_change is_counter values)

-- ---- where the samples lie in the window

abbrev pub mean_gap : List Ms → XFrac → Result XFrac NumFault
mean_gap times sampled = arithmetic Div sampled (whole_number (length times - 1))

-- the way from the first sample to the last, the mean gap between two, and the ways from the window's start to the first and from the last to its end
unfoldable pub layout_of : List Ms → WindowFrame → Result Layout NumFault
layout_of times frame = do
  gap ← mean_gap times (milliseconds (ended times -ℤ begun times))
  Ok (record {
    sampled = milliseconds (ended times -ℤ begun times);
    gap = gap;
    to_start = milliseconds (begun times -ℤ (frame.moment.0 -ℤ frame.range.0));
    to_end = milliseconds (frame.moment.0 -ℤ ended times);
  })

-- ---- the change carried on

abbrev pub eleven_tenths : XFrac
eleven_tenths = Fin (pos 11, 10)

-- a way at or above 1.1 mean gaps becomes half a gap: the series is taken to begin or end within the window
unfoldable pub way_to_edge : XFrac → XFrac → Result XFrac NumFault
way_to_edge way gap = do
  far ← arithmetic Mul gap eleven_tenths
  if compares Ge way far then arithmetic Div gap (whole_number 2) else Ok way

-- the way back at which a counter that rises by `change` in the way sampled was 0: sampled * (first / change)
unfoldable pub way_to_zero : XFrac → XFrac → XFrac → Result XFrac NumFault
way_to_zero sampled first change = do
  share ← arithmetic Div first change
  arithmetic Mul sampled share

-- a way that is at most another
unfoldable pub at_most : XFrac → Result XFrac NumFault → Result XFrac NumFault
at_most way limit = do
  most ← limit
  Ok (if compares Gt way most then most else way)

-- a counter that rises from at least 0 is carried back no further than to 0
abbrev pub way_back : Bool → XFrac → XFrac → XFrac → XFrac → Result XFrac NumFault
way_back is_counter way sampled first change =
    if is_counter && (compares Gt change (whole_number 0) && compares Ge first (whole_number 0)) then at_most way (way_to_zero sampled first change) else Ok way

-- the change over the way sampled, carried on over the ways to both edges: change * ((sampled + to_start + to_end) / sampled)
unfoldable pub covered : XFrac → XFrac → XFrac → Result XFrac NumFault
covered sampled to_start to_end = do
  longer ← arithmetic Add sampled to_start
  arithmetic Add longer to_end

unfoldable pub extrapolated : XFrac → XFrac → XFrac → XFrac → Result XFrac NumFault
extrapolated change sampled to_start to_end = do
  all ← covered sampled to_start to_end
  factor ← arithmetic Div all sampled
  arithmetic Mul change factor

-- the way to the window's start that the change is carried back over
unfoldable pub start_way : Bool → Layout → XFrac → XFrac → Result XFrac NumFault
start_way is_counter layout first change = do
  way ← way_to_edge layout.to_start layout.gap
  way_back is_counter way layout.sampled first change

unfoldable pub carried : Bool → Layout → XFrac → XFrac → Result XFrac NumFault
carried is_counter layout first change = do
  to_start ← start_way is_counter layout first change
  to_end ← way_to_edge layout.to_end layout.gap
  extrapolated change layout.sampled to_start to_end

-- ---- the functions, of at least two samples

-- increase of a counter, and delta of what is none
unfoldable pub increase : Bool → List Ms → List XFrac → WindowFrame → Result XFrac NumFault
increase is_counter times values frame = do
  change ← change is_counter values
  layout ← layout_of times frame
  carried is_counter layout (first_of values) change

-- a counter's increase by seconds of the range
unfoldable pub rate : List Ms → List XFrac → WindowFrame → Result XFrac NumFault
rate times values frame = do
  increase ← increase true times values frame
  range ← in_seconds (milliseconds frame.range.0)
  arithmetic Div increase range
