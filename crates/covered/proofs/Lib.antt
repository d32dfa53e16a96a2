pub mod Coverage
pub mod CoveredLayers
pub mod CoveredEdges
pub mod Extremes
pub mod Sides
pub mod CoveredPolygons
