-- A refusal goes through the steps behind it.
use Rattle.std.proofs.Common.{◌≡◌, ℕ, List, [], ◌∷◌, ◌++◌, Result, Ok, Err, refl, append_assoc, ◌∙◌, ap, sym}
use Rattle.script_read.specs.Outcomes.{Fails, Refuses, in_front, joined, onto, then_try}
use Rattle.script_read.specs.Refusals.{at_line, fault_at}
use Rattle.script_read.specs.declared.fault.LineFault.{LineFault}
use Rattle.script_read.specs.declared.fault.LineFault.TheVariants.{Malformed, NativeHistogram, NumberRange, BadPattern, BadLabels, Memory}
use Rattle.script_read.specs.declared.fault.ReadFault.{ReadFault}
use Rattle.script_read.specs.declared.fault.ReadFault.TheVariants as files

-- what makes a refusal of each refusal
module _ {X Y : Type 0} (make : Result X LineFault → Result Y LineFault) (keeps : (e : LineFault) → make (Err e) ≡ Err e) where
  pub fails_through : (e : LineFault) (said : Result X LineFault) → Fails e said → Fails e (make said)
  fails_through Malformed said h = ap make h ∙ keeps Malformed
  fails_through NativeHistogram said h = ap make h ∙ keeps NativeHistogram
  fails_through NumberRange said h = ap make h ∙ keeps NumberRange
  fails_through BadPattern said h = ap make h ∙ keeps BadPattern
  fails_through BadLabels said h = ap make h ∙ keeps BadLabels
  fails_through Memory said h = tt

pub fails_try : {X Y : Type 0} (e : LineFault) (said : Result X LineFault) (make : X → Result Y LineFault) → Fails e said → Fails e (then_try said make)
fails_try e said make h = fails_through (λ s. then_try s make) (λ e. refl) e said h

pub fails_front : {X : Type 0} (e : LineFault) (front : List X) (said : Result (List X) LineFault) → Fails e said → Fails e (in_front front said)
fails_front e front said h = fails_through (λ s. in_front front s) (λ e. refl) e said h

-- the same of a file
module _ {X Y : Type 0} (make : Result X ReadFault → Result Y ReadFault) (keeps : (e : ReadFault) → make (Err e) ≡ Err e) where
  pub refuses_through : (e : ReadFault) (said : Result X ReadFault) → Refuses e said → Refuses e (make said)
  refuses_through (files.Refused r) said h = ap make h ∙ keeps (files.Refused r)
  refuses_through files.Memory said h = tt

pub refuses_try : {X Y : Type 0} (e : ReadFault) (said : Result X ReadFault) (make : X → Result Y ReadFault) → Refuses e said → Refuses e (then_try said make)
refuses_try e said make h = refuses_through (λ s. then_try s make) (λ e. refl) e said h

pub refuses_front : {X : Type 0} (e : ReadFault) (front : List X) (said : Result (List X) ReadFault) → Refuses e said → Refuses e (in_front front said)
refuses_front e front said h = refuses_through (λ s. in_front front s) (λ e. refl) e said h

-- a line's fault is the file's
pub refuses_at : {X : Type 0} (n : ℕ) (e : LineFault) (said : Result X LineFault) → Fails e said → Refuses (fault_at n e) (at_line n said)
refuses_at n Malformed said h = ap (at_line n) h
refuses_at n NativeHistogram said h = ap (at_line n) h
refuses_at n NumberRange said h = ap (at_line n) h
refuses_at n BadPattern said h = ap (at_line n) h
refuses_at n BadLabels said h = ap (at_line n) h
refuses_at n Memory said h = tt

-- items in front of items in front
pub front_front : {X E : Type 0} (a b : List X) (said : Result (List X) E) → in_front a (in_front b said) ≡ in_front (a ++ b) said
front_front a b (Err e) = refl
front_front a b (Ok xs) = ap Ok (sym (append_assoc a b xs))

pub front_none : {X E : Type 0} (said : Result (List X) E) → in_front [] said ≡ said
front_none (Err e) = refl
front_none (Ok xs) = refl

-- one item more in front
pub front_onto : {X E : Type 0} (xs : List X) (x : X) (said : Result (List X) E) → in_front xs (onto (Ok x) said) ≡ in_front (xs ++ x ∷ []) said
front_onto xs x (Err e) = refl
front_onto xs x (Ok ys) = ap Ok (sym (append_assoc xs (x ∷ []) ys))

-- items in front of others that come first
pub front_joined : {X E : Type 0} (xs ys : List X) (said : Result (List X) E) → in_front xs (joined (Ok ys) said) ≡ in_front (xs ++ ys) said
front_joined xs ys said = front_front xs ys said

-- what is refused behind items is refused
pub front_refused : {X E : Type 0} (xs : List X) (said : Result (List X) E) (e : E) → in_front xs said ≡ Err e → said ≡ Err e
front_refused xs (Err d) e h = h
front_refused xs (Ok ys) e h = absurd (cc)

pub at_line_ok : {X : Type 0} (n : ℕ) (said : Result X LineFault) (x : X) → at_line n said ≡ Ok x → said ≡ Ok x
at_line_ok n (Ok y) x h = cc
at_line_ok n (Err e) x h = absurd (cc)

pub at_line_err : {X : Type 0} (n : ℕ) (said : Result X LineFault) (e : ReadFault) → at_line n said ≡ Err e → (fault : LineFault) × (said ≡ Err fault) × (e ≡ fault_at n fault)
at_line_err n (Ok y) e h = absurd (cc)
at_line_err n (Err d) e h = (d, refl, cc)

-- a refusal that is said
pub fails_when : {X : Type 0} (e : LineFault) (said : Result X LineFault) → said ≡ Err e → Fails e said
fails_when Malformed said h = h
fails_when NativeHistogram said h = h
fails_when NumberRange said h = h
fails_when BadPattern said h = h
fails_when BadLabels said h = h
fails_when Memory said h = tt
