-- The refusal number of each line (02, E4).
use Rattle.std.specs.Prelude.{ℕ}

abbrev pub station : ℕ
station = 18

abbrev pub channel_counts : ℕ
channel_counts = 19

abbrev pub analogue : ℕ
analogue = 20

abbrev pub status : ℕ
status = 21

abbrev pub frequency : ℕ
frequency = 22

abbrev pub number_of_rates : ℕ
number_of_rates = 23

abbrev pub rate : ℕ
rate = 24

abbrev pub date : ℕ
date = 25

abbrev pub file_type : ℕ
file_type = 26

abbrev pub multiplier : ℕ
multiplier = 27
