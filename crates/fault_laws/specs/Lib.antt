pub mod RulesBroken
pub mod FaultLaws
