-- The idempotent power is found, and the pairs are looked at with it. Assumes nothing.
use Rattle.lasso_powers.proofs.turn_highest.Goals as goal

pub powers_highest-requires : goal.powers_highest-requires
powers_highest-requires c = record {
  table = c.requires.table;
  lawful = c.requires.lawful;
  beginnings_base_in_bounds = c.requires.beginnings_base_in_bounds;
  p_lt_n = c.requires.p_lt_n;
  least_power = c.idempotent_power-power.ensures;
}
