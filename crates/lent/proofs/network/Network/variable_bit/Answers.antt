-- `lent::network::Network::variable_bit` meets its contract: a shift and a mask.
-- Assumes nothing.
use Rattle.lists.proofs.Bits.Masks.{bit_masked}
use Rattle.lent.proofs.network.Network.variable_bit.Goals as goal

pub returns : goal.returns
returns c =
    bit_masked c.args.self.now.state.n c.args.v c.args.row
