-- Costs and laws, by computation.
use Rattle.std.proofs.Common.{◌≤◌, [], refl, inl, inr, arith}
use Rattle.forest.specs.Forest.{Forest, nil, text, node}
use Rattle.worked.specs.Costs.{Priced, AtCeiling, TextsFirst, BreaksALaw}
use Rattle.worked.proofs.Made.{stands_for}
use Rattle.worked.proofs.Worked.{forest_both}

abbrev forest_two_texts : Forest
forest_two_texts = text [] (text [] nil)

abbrev forest_n1_text : Forest
forest_n1_text = node 1 nil (text [] nil)

pub priced : Priced
priced =
    record {
      length_of_two_texts = record { forest = forest_two_texts; stands_for = stands_for forest_two_texts refl refl; cost_is = refl };
      filling_of_two_texts = record { forest = forest_two_texts; stands_for = stands_for forest_two_texts refl refl; cost_is = refl };
      length_of_both = record { forest = forest_both; stands_for = stands_for forest_both refl refl; cost_is = refl };
      filling_of_both = record { forest = forest_both; stands_for = stands_for forest_both refl refl; cost_is = refl };
      filling_of_node = record { forest = forest_n1_text; stands_for = stands_for forest_n1_text refl refl; cost_is = refl };
    }

pub at_ceiling : AtCeiling
at_ceiling =
    record {
      text_below = refl;
      text_at = refl;
      text_above = refl;
      node_below = refl;
      node_at = refl;
      node_above = refl;
      filling_below = refl;
      filling_length_above = refl;
      filling_texts_at = refl;
      filling_node_below = refl;
      filling_node_at = refl;
    }

pub texts_first : TextsFirst
texts_first =
    record {
      fewer_texts = inl (omega arith);
      more_texts = λ h. elim h [ inl l ↦ omega arith | inr z ↦ let e = z.0 in omega arith ];
      shorter = inr (refl, omega arith);
      longer = λ h. elim h [ inl l ↦ omega arith | inr z ↦ let e = z.1 in omega arith ];
      same = inr (refl, omega arith);
    }

pub breaks_a_law : BreaksALaw
breaks_a_law =
    record {
      keeps_all = (
        record { total = λ a b _ _. grind arith; trans = λ a b c _ _ _ p q. omega arith },
        record {
          good_nil = tt;
          good_text = λ n r g. tt;
          good_node = λ c r g h. tt;
          least_text = λ n r g. omega arith;
          text_rest = λ n r g. omega arith;
          node_rest = λ c r g h. omega arith;
          node_content = λ c r g h. omega arith;
          mono_text = λ n r s g h l. omega arith;
          mono_node = λ c d r s g h i j p q. omega arith;
        },
      );
      not_total = λ o. elim (o.total 0 1 tt tt) [ inl e ↦ omega arith | inr e ↦ omega arith ];
      not_transitive = λ o. let z = o.trans 2 1 0 tt tt tt (omega arith) (omega arith) in omega arith;
      nil_no_cost = λ l. let z = l.good_nil in omega arith;
      text_no_cost = λ l. let z = l.good_text 0 0 refl in omega arith;
      node_no_cost = λ l. let z = l.good_node 0 0 (omega arith) (omega arith) in omega arith;
      empty_text_dearer = λ l. let z : 1 ≤ 0 = l.least_text 1 0 tt in omega arith;
      text_below_rest = λ l. let z = l.text_rest 0 1 tt in omega arith;
      node_below_rest = λ l. let z = l.node_rest 0 1 tt tt in omega arith;
      node_below_content = λ l. let z = l.node_content 1 0 tt tt in omega arith;
      dearer_text_for_less = λ l. let z : 5 ≤ 1 = l.mono_text 0 0 1 tt tt (omega arith) in omega arith;
      dearer_node_for_less = λ l. let z : 5 ≤ 1 = l.mono_node 0 0 0 1 tt tt tt tt (omega arith) (omega arith) in omega arith;
    }
