-- The input of a timer (01, 'Timers').
use Rattle.std.specs.Prelude.{Bool, ◌&&◌, ◌||◌}
use Rattle.timer.specs.declared.inputs.Combination.{Combination}
use Rattle.timer.specs.declared.inputs.Combination.TheVariants.{Plain, Or, And, OrAnd}
use Rattle.timer.specs.declared.inputs.Inputs.{Inputs}

-- "with the input plain, OR, AND, or (start OR or-input) AND and-input"
abbrev pub combined : Combination → Bool → Bool → Bool → Bool
combined Plain start or_input and_input = start
combined Or start or_input and_input = start || or_input
combined And start or_input and_input = start && and_input
combined OrAnd start or_input and_input = (start || or_input) && and_input

abbrev pub input_of : Inputs → Bool
input_of inputs = combined inputs.combination inputs.start inputs.or_input inputs.and_input
