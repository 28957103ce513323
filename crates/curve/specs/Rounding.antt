-- Quotients of whole numbers. Rounded down, a quotient is `n / d` itself.
use Rattle.std.specs.Prelude.{ℕ, ◌+◌, ◌/◌, ◌%◌, cond, eqb}

-- rounded up: one more where something is left over
unfoldable pub rounded_up : ℕ → ℕ → ℕ
rounded_up n d = n / d + cond (eqb (n % d) 0) 0 1
