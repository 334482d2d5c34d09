use Rattle.assembler.proofs.Addresses.{addresses_fit}
use Rattle.assembler.proofs.assembling.addresses_fit.Goals as goal

pub returns : goal.returns
returns c = addresses_fit
