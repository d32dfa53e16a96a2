pub mod VerdictLaws
pub mod NearEdges
pub mod Deciding
pub mod Least
pub mod OwnVerdicts
pub mod EdgeBins
pub mod CommonPoints
pub mod MeetingLaws
