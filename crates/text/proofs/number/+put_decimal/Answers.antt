use mathlib.Core.Path.{ap}
use native.Mathlib.Omega.{arith}
use lib.ListN.{length}
use lib.Seq.{length-sets}
use Rattle.text.proofs.DecimalLaws.{decimal_one, digit_longer, put_digit}
use Rattle.text.proofs.number.+put_decimal.Goals as goal

pub bounds-out-at : goal.bounds-out-at
bounds-out-at t c = omega (arith, ap length (decimal_one c.args.v (omega arith)))

pub returns-then-v-lt10 : goal.returns-then-v-lt10
returns-then-v-lt10 t c =
    let e = decimal_one c.args.v (omega arith) in
    record { place_after = rw e; output = rw e }

pub put_decimal-p-requires : goal.put_decimal-p-requires
put_decimal-p-requires t c =
    let m = digit_longer c.args.v (omega arith) (omega arith) in
    (omega arith, omega (arith, m))

pub bounds-out-p : goal.bounds-out-p
bounds-out-p t c =
    let e = c.put_decimal-p.ensures in
    let m = digit_longer c.args.v (omega arith) (omega arith) in
    rw (e.output, length-sets) (omega (arith, m, e.place_after, c.requires))

pub overflow_add-result-else-v-lt10 : goal.overflow_add-result-else-v-lt10
overflow_add-result-else-v-lt10 t c =
    let m = digit_longer c.args.v (omega arith) (omega arith) in
    omega (arith, m, c.put_decimal-p.ensures.place_after, c.requires)

pub returns-else-v-lt10 : goal.returns-else-v-lt10
returns-else-v-lt10 t c =
    let a = c.args in
    let e = c.put_decimal-p.ensures in
    let m = digit_longer a.v (omega arith) (omega arith) in
    record {
      place_after = omega (arith, m, e.place_after);
      output = rw (e.output, e.place_after) (put_digit a.out.now a.at a.v (omega arith) (omega arith));
    }
