-- Costs of parts, and of all of them together.
use Rattle.std.proofs.Common.{◌≡◌, sym, subst, arith}
use Rattle.plan_tree.specs.Spending.{Cost, IsAtMost, both, nothing}

pub none_least : (a : Cost) → IsAtMost nothing a
none_least a = record { fetched = omega arith; probed = omega arith }

pub same_least : (a b : Cost) → a ≡ b → IsAtMost a b
same_least a b e = subst (λ (c : Cost). IsAtMost a c) e (record { fetched = omega arith; probed = omega arith })

pub then_least : (a b c : Cost) → IsAtMost a b → IsAtMost b c → IsAtMost a c
then_least a b c h k = record { fetched = (let f = h.fetched in let g = k.fetched in omega arith); probed = (let p = h.probed in let q = k.probed in omega arith) }

pub with_none : (a m : Cost) → IsAtMost a m → IsAtMost (both a nothing) m
with_none a m h = record { fetched = (let f = h.fetched in omega arith); probed = (let p = h.probed in omega arith) }

pub both_least : (a b m n : Cost) → IsAtMost a m → IsAtMost b n → IsAtMost (both a b) (both m n)
both_least a b m n h k = record { fetched = (let f = h.fetched in let g = k.fetched in omega arith); probed = (let p = h.probed in let q = k.probed in omega arith) }

pub both_turned : (a b m n : Cost) → IsAtMost a m → IsAtMost b n → IsAtMost (both b a) (both m n)
both_turned a b m n h k = record { fetched = (let f = h.fetched in let g = k.fetched in omega arith); probed = (let p = h.probed in let q = k.probed in omega arith) }

pub beside_least : (a m n : Cost) → IsAtMost a n → IsAtMost a (both m n)
beside_least a m n h = record { fetched = (let f = h.fetched in omega arith); probed = (let p = h.probed in omega arith) }

-- within an equal bound
pub at_bound : (a m n : Cost) → n ≡ m → IsAtMost a m → IsAtMost a n
at_bound a m n e h = subst (λ (c : Cost). IsAtMost a c) (sym e) h
