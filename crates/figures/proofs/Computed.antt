-- The worked figures, computed. Assumes nothing.
use Rattle.std.proofs.Common.{refl}
use Rattle.std.specs.Fmt.{digits}
use Rattle.schedule.specs.Charges.{charge}
use Rattle.schedule.specs.Answers.{answer}
use Rattle.agreement.specs.Cents.{rounded}
use Rattle.figures.specs.Figures.{Figures}

pub figures : Figures
unfolding digits charge answer rounded
figures =
    record {
      short_25 = refl;
      short_26 = refl;
      short_26_in_bands = refl;
      short_on_nothing = refl;
      long_on_nothing = refl;
      used_1100 = refl;
      used_1101 = refl;
      used_899 = refl;
      noticed_1101 = refl;
      noticed_1101_in_cents = refl;
      first_of_three = refl;
      second_of_three = refl;
      third_of_three = refl;
      late_4 = refl;
      late_5 = refl;
      late_300 = refl;
      late_10000 = refl;
      listed = refl;
    }
