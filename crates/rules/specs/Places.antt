-- The place of each rule in the list `rules`: every place is the one after the place before it, so that a rule put into the list shifts the rest.
use Rattle.std.specs.Prelude.{ℕ, zero, suc}

abbrev pub at_r1 : ℕ
at_r1 = zero

abbrev pub at_r2 : ℕ
at_r2 = suc at_r1

abbrev pub at_fold : ℕ
at_fold = suc at_r2

abbrev pub at_f1 : ℕ
at_f1 = suc at_fold

abbrev pub at_f2 : ℕ
at_f2 = suc at_f1

abbrev pub at_f3 : ℕ
at_f3 = suc at_f2

abbrev pub at_f4 : ℕ
at_f4 = suc at_f3

abbrev pub at_f5 : ℕ
at_f5 = suc at_f4

abbrev pub at_f6 : ℕ
at_f6 = suc at_f5

abbrev pub at_f7 : ℕ
at_f7 = suc at_f6

abbrev pub at_del1 : ℕ
at_del1 = suc at_f7

abbrev pub at_del2 : ℕ
at_del2 = suc at_del1

abbrev pub at_del3 : ℕ
at_del3 = suc at_del2

abbrev pub at_d1 : ℕ
at_d1 = suc at_del3

abbrev pub at_d2 : ℕ
at_d2 = suc at_d1

abbrev pub at_d0 : ℕ
at_d0 = suc at_d2

abbrev pub at_e1 : ℕ
at_e1 = suc at_d0

abbrev pub at_e2 : ℕ
at_e2 = suc at_e1

abbrev pub at_e3 : ℕ
at_e3 = suc at_e2

abbrev pub at_e4 : ℕ
at_e4 = suc at_e3

abbrev pub at_e5 : ℕ
at_e5 = suc at_e4

abbrev pub at_e6 : ℕ
at_e6 = suc at_e5

abbrev pub at_e7 : ℕ
at_e7 = suc at_e6

abbrev pub at_m1 : ℕ
at_m1 = suc at_e7

abbrev pub at_m2 : ℕ
at_m2 = suc at_m1

abbrev pub at_m3 : ℕ
at_m3 = suc at_m2

abbrev pub at_m4 : ℕ
at_m4 = suc at_m3

abbrev pub at_m5 : ℕ
at_m5 = suc at_m4

abbrev pub at_m6 : ℕ
at_m6 = suc at_m5

abbrev pub at_m7 : ℕ
at_m7 = suc at_m6

abbrev pub at_m10 : ℕ
at_m10 = suc at_m7

abbrev pub at_m11 : ℕ
at_m11 = suc at_m10

abbrev pub at_m12 : ℕ
at_m12 = suc at_m11

abbrev pub at_clash : ℕ
at_clash = suc at_m12

-- no rule applies: the place after the last
abbrev pub no_rule : ℕ
no_rule = suc at_clash

-- nor can it be told: a rule of two literals stops the run
abbrev pub stops_rule : ℕ
stops_rule = suc no_rule
