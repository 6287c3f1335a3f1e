pub mod PlannerLemmas
