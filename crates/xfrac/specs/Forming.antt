-- What is formed of one or two numbers. (This project's own.)
use Rattle.std.specs.Prelude.{ℕ, ℤ, pos, neg_ℤ, unsigned_abs, Option, Some, None, if◌then◌else◌}
use Rattle.std.specs.Int.{int_div_euclid}
use Rattle.xfrac.specs.Fractions.{lowest, is_within}
use Rattle.xfrac.specs.declared.value.XFrac.{XFrac}
use Rattle.xfrac.specs.declared.value.XFrac.TheVariants.{Fin, PosInf, NegInf, NaN}

-- the number n/d, which there is where its lowest terms are within the limit
abbrev pub formed : ℤ → ℕ → Option XFrac
formed n d = if is_within (lowest n d) then Some (Fin (lowest n d)) else None

-- the number with the other sign
abbrev pub negated : XFrac → XFrac
negated (Fin f) = Fin (neg_ℤ f.0, f.1)
negated PosInf = NegInf
negated NegInf = PosInf
negated NaN = NaN

-- the number without its sign
abbrev pub magnitude : XFrac → XFrac
magnitude (Fin f) = Fin (pos (unsigned_abs f.0), f.1)
magnitude PosInf = PosInf
magnitude NegInf = PosInf
magnitude NaN = NaN

-- the greatest whole number that isn't above the number
abbrev pub floor_of : XFrac → XFrac
floor_of (Fin f) = Fin (int_div_euclid f.0 (pos f.1), 1)
floor_of PosInf = PosInf
floor_of NegInf = NegInf
floor_of NaN = NaN

-- the least whole number that isn't below the number
abbrev pub ceiling_of : XFrac → XFrac
ceiling_of v = negated (floor_of (negated v))
