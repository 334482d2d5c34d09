-- Each of the key sums, computed.
use Rattle.std.proofs.Common.{refl}
use Rattle.reading.specs.KeySums.{KeySums}

pub key_sums : KeySums
key_sums = record {
  add = refl;
  xor = refl;
  bez = refl;
  ldi = refl;
  zero_field = refl;
  no_such_word = refl;
  signed = refl;
  unsigned = refl;
  asrm = λ m. refl;
  asrm_spends = refl;
  lsrm_spends = refl;
}
